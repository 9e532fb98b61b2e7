-- The invariant: from here the walk comes to the same state. Assumes nothing.
use native.Mathlib.Omega.{arith}
use mathlib.Core.Path.{sym, ◌∙◌}
use Rattle.units.specs.Units.{sample}
use Rattle.mark_rules.proofs.States.{step_after, reach_here, reach_step}
use Rattle.marks.proofs.Steps.{fits_step}
use Rattle.marks.proofs.reach.Goals as goal

pub loop-s-smaller : goal.loop-s-smaller
loop-s-smaller c = let a = step_after (sample c.args.k c.args.z.now) c.loop-s.s in rw c.step-s.ensures (omega arith)

pub loop-s-preserved : goal.loop-s-preserved
loop-s-preserved c = rw c.step-s.ensures (fits_step _ _ c.loop-s.invariant.0, sym (reach_step _ _ _ c.loop-s-test.true) ∙ c.loop-s.invariant.1)

pub returns : goal.returns
returns c = (sym (reach_here _ _ _ c.loop-s-test.false) ∙ c.loop-s.invariant.1, c.loop-s.invariant.0)
