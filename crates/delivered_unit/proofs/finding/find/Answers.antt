-- The loop's invariant: the units passed are not yet i. The steps fall by what is left. Assumes nothing.
use native.Mathlib.Omega.{arith}
use mathlib.Core.Path.{sym, ◌∙◌}
use Rattle.delivery.proofs.Rests.{moved_less, unit_less}
use Rattle.delivery.proofs.Folds.{folded_moved}
use Rattle.delivered_unit.proofs.Seeks.{seeks_start, seeks_take, seeks_none, seeks_found}
use Rattle.delivered_unit.proofs.finding.find.Goals as goal

pub loop-d-init : goal.loop-d-init
loop-d-init c = rw c.start-c.ensures (seeks_start _ _ _ _ c.requires.2)

pub returns-in-Done : goal.returns-in-Done
returns-in-Done c = let h = c.requires in c.no_unit.ensures ∙ sym (seeks_none _ _ _ _ _ _ c.loop-d.invariant h.0 h.1 (sym c.step.ensures ∙ c.in-Done.is))

pub loop-d-smaller-in-Moved : goal.loop-d-smaller-in-Moved
loop-d-smaller-in-Moved c = moved_less _ _ _ _ (sym c.step.ensures ∙ c.in-Moved.is)

pub loop-d-preserved-in-Moved : goal.loop-d-preserved-in-Moved
loop-d-preserved-in-Moved c = folded_moved _ _ _ _ _ c.loop-d.invariant (sym c.step.ensures ∙ c.in-Moved.is)

pub overflow_sub-left : goal.overflow_sub-left
overflow_sub-left c = let h = c.loop-d.invariant.holds in omega arith

pub returns-then-left-eq0 : goal.returns-then-left-eq0
returns-then-left-eq0 c = let h = c.requires in sym (seeks_found _ _ _ _ _ _ c.loop-d.invariant h.0 h.1 (sym c.step.ensures ∙ c.in-Unit.is) c.if-left-eq0.true)

pub loop-d-smaller : goal.loop-d-smaller
loop-d-smaller c = let l = unit_less _ _ _ _ (sym c.step.ensures ∙ c.in-Unit.is) in omega arith

pub loop-d-preserved : goal.loop-d-preserved
loop-d-preserved c = seeks_take _ _ _ _ _ _ c.loop-d.invariant (sym c.step.ensures ∙ c.in-Unit.is) c.if-left-eq0.false
