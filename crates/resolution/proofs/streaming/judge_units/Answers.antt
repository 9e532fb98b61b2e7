-- The loop's invariant: no unit passed is refused, and the size is the length of their stream. The steps fall by what is left. Assumes nothing.
use native.Mathlib.Omega.{arith}
use mathlib.Core.Path.{◌≡◌, sym, ◌∙◌}
use Prim.Native.Nat.{◌+◌, ◌≤◌}
use Rattle.units.specs.Units.{sample}
use Rattle.tables.specs.Tables.{recording_in}
use Rattle.delivery.specs.Steps.{step_of}
use Rattle.delivery.specs.declared.Stepped.TheVariants as step
use Rattle.delivery.proofs.Rests.{moved_less, unit_less}
use Rattle.delivery.proofs.Folds.{folded_moved}
use Rattle.resolution.specs.Streams.{stream_most}
use Rattle.resolution.proofs.Puts.{unit_inside}
use Rattle.resolution.proofs.Streams.{judges_start, judges_take, judges_fit, judges_bad, judges_end}
use Rattle.resolution.proofs.streaming.judge_units.Goals as goal
use Rattle.resolution.proofs.streaming.judge_units.Goals.{In-Unit}

-- the unit at hand
unit : (c : In-Unit) → let a = c.args in step_of (recording_in a.b.now a.t.now) a.n.0 (sample a.k a.x.now) c.loop-d.c ≡ step.Unit c.in-Unit.u c.in-Unit.d
unit c = sym c.step.ensures ∙ c.in-Unit.is

-- the sum fits
fits : (c : In-Unit) → c.loop-d.size + (4 + c.in-Unit.u.span.size) ≤ stream_most
fits c = let h = c.requires in judges_fit _ _ _ _ _ _ c.loop-d.invariant h.0 h.2 (unit c)

pub loop-d-init : goal.loop-d-init
loop-d-init c = rw c.start-c.ensures (judges_start _ _ _)

pub returns-in-Done : goal.returns-in-Done
returns-in-Done c = let h = c.requires in sym (judges_end _ _ _ _ _ c.loop-d.invariant h.0 h.1 (sym c.step.ensures ∙ c.in-Done.is))

pub loop-d-smaller-in-Moved : goal.loop-d-smaller-in-Moved
loop-d-smaller-in-Moved c = moved_less _ _ _ _ (sym c.step.ensures ∙ c.in-Moved.is)

pub loop-d-preserved-in-Moved : goal.loop-d-preserved-in-Moved
loop-d-preserved-in-Moved c = folded_moved _ _ _ _ _ c.loop-d.invariant (sym c.step.ensures ∙ c.in-Moved.is)

pub is_streamable-requires : goal.is_streamable-requires
is_streamable-requires c = unit_inside _ _ _ c.requires.0 _ (unit (goal.at.is_streamable-requires c).In-Unit)

pub returns-then-not-is_streamable : goal.returns-then-not-is_streamable
returns-then-not-is_streamable c = let h = c.requires in rw c.at.ensures (sym (judges_bad _ _ _ _ _ c.loop-d.invariant h.0 h.1 (unit (goal.at.returns-then-not-is_streamable c).In-Unit) (sym c.is_streamable.ensures ∙ c.if-not-is_streamable.true)))

pub overflow_add-size : goal.overflow_add-size
overflow_add-size c = let f = fits (goal.at.overflow_add-size c).In-Unit in omega arith

pub overflow_add-size-in-Unit : goal.overflow_add-size-in-Unit
overflow_add-size-in-Unit c = let f = fits (goal.at.overflow_add-size-in-Unit c).In-Unit in omega arith

pub loop-d-smaller : goal.loop-d-smaller
loop-d-smaller c = let l = unit_less _ _ _ _ (unit (goal.at.loop-d-smaller c).In-Unit) in omega arith

pub loop-d-preserved : goal.loop-d-preserved
loop-d-preserved c = judges_take _ _ _ _ _ c.loop-d.invariant c.requires.0 (unit (goal.at.loop-d-preserved c).In-Unit) (sym c.is_streamable.ensures ∙ c.if-not-is_streamable.false)
