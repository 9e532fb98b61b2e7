-- The loop's invariant: the units passed are written. The steps fall by what is left. Assumes nothing.
use native.Mathlib.Omega.{arith}
use mathlib.Core.Path.{sym, ◌∙◌}
use Prim.Native.Nat.{◌+◌, ◌≤◌}
use lib.ListN.{length}
use Rattle.delivery.proofs.Rests.{moved_less, unit_less}
use Rattle.delivery.proofs.Folds.{folded_moved}
use Rattle.resolution.proofs.Puts.{puts_start, puts_length, puts_end, unit_inside, puts_room, puts_fit, puts_take}
use Rattle.resolution.proofs.writing.write_units_from.Goals as goal
use Rattle.resolution.proofs.writing.write_units_from.Goals.{After-put_unit-at, In-Unit}

-- there is room for the unit
room : (c : In-Unit) → c.loop-d.at + (4 + c.in-Unit.u.span.size) ≤ length c.args.out.now
room c = let h = c.requires in puts_room _ _ _ _ _ _ _ _ _ c.loop-d.invariant h.0 h.1 (sym c.step.ensures ∙ c.in-Unit.is) h.2

wrote : (c : After-put_unit-at) → c.loop-d.at + c.put_unit-at.result ≤ length c.args.out.now
wrote c = let h = c.requires in rw c.put_unit-at.ensures.0 (puts_fit _ _ _ _ _ _ _ _ _ c.loop-d.invariant h.0 h.1 (sym c.step.ensures ∙ c.in-Unit.is) h.2)

pub loop-d-init : goal.loop-d-init
loop-d-init c = rw c.start-c.ensures (puts_start _ _ _ _ _ _ (omega (arith, c.requires.2)))

pub shape_of-out-in-Done : goal.shape_of-out-in-Done
shape_of-out-in-Done c = puts_length _ _ _ _ _ _ _ _ _ c.loop-d.invariant

pub returns-in-Done : goal.returns-in-Done
returns-in-Done c = let h = c.requires in puts_end _ _ _ _ _ _ _ _ _ c.loop-d.invariant h.0 h.1 (sym c.step.ensures ∙ c.in-Done.is)

pub loop-d-smaller-in-Moved : goal.loop-d-smaller-in-Moved
loop-d-smaller-in-Moved c = moved_less _ _ _ _ (sym c.step.ensures ∙ c.in-Moved.is)

pub loop-d-preserved-in-Moved : goal.loop-d-preserved-in-Moved
loop-d-preserved-in-Moved c = folded_moved _ _ _ _ _ c.loop-d.invariant (sym c.step.ensures ∙ c.in-Moved.is)

pub put_unit-at-requires : goal.put_unit-at-requires
put_unit-at-requires c = let h = c.requires in
    let r = room (goal.at.put_unit-at-requires c).In-Unit in
    let l = puts_length _ _ _ _ _ _ _ _ _ c.loop-d.invariant in
    (unit_inside _ _ _ h.0 _ (sym c.step.ensures ∙ c.in-Unit.is), omega arith)

pub overflow_add-at : goal.overflow_add-at
overflow_add-at c = let r = wrote (goal.at.overflow_add-at c).After-put_unit-at in let k = c.well_formed.0 in omega arith

pub loop-d-smaller : goal.loop-d-smaller
loop-d-smaller c = let l = unit_less _ _ _ _ (sym c.step.ensures ∙ c.in-Unit.is) in omega arith

pub loop-d-preserved : goal.loop-d-preserved
loop-d-preserved c = let h = c.requires in rw (c.put_unit-at.ensures.1, c.put_unit-at.ensures.0) (puts_take _ _ _ _ _ _ _ _ _ c.loop-d.invariant h.0 h.1 (sym c.step.ensures ∙ c.in-Unit.is) h.2)
