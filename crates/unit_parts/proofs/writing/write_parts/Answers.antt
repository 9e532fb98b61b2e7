-- The loop's invariant: where the units passed stand is written. The steps fall by what is left. Assumes nothing.
use native.Mathlib.Omega.{arith}
use mathlib.Core.Path.{sym, ◌∙◌}
use Prim.Native.Nat.{◌+◌, ◌≤◌}
use lib.ListN.{length}
use Rattle.delivery.proofs.Rests.{moved_less, unit_less}
use Rattle.delivery.proofs.Folds.{folded_moved}
use Rattle.unit_parts.proofs.Puts.{puts_start, puts_length, puts_end, puts_inside, puts_room, puts_take}
use Rattle.unit_parts.proofs.writing.write_parts.Goals as goal
use Rattle.unit_parts.proofs.writing.write_parts.Goals.{In-Unit}

-- there is room for the unit
room : (c : In-Unit) → c.loop-d.at + 2 ≤ length c.args.out.now
room c = let h = c.requires in puts_room _ _ _ _ _ _ _ _ c.loop-d.invariant h.0 h.1 (sym c.step.ensures ∙ c.in-Unit.is) h.3

pub loop-d-init : goal.loop-d-init
loop-d-init c = rw c.start-c.ensures (puts_start _ _ _ _ _)

pub shape_of-out-in-Done : goal.shape_of-out-in-Done
shape_of-out-in-Done c = puts_length _ _ _ _ _ _ _ _ c.loop-d.invariant

pub returns-in-Done : goal.returns-in-Done
returns-in-Done c = let h = c.requires in puts_end _ _ _ _ _ _ _ _ c.loop-d.invariant h.0 h.1 (sym c.step.ensures ∙ c.in-Done.is)

pub loop-d-smaller-in-Moved : goal.loop-d-smaller-in-Moved
loop-d-smaller-in-Moved c = moved_less _ _ _ _ (sym c.step.ensures ∙ c.in-Moved.is)

pub loop-d-preserved-in-Moved : goal.loop-d-preserved-in-Moved
loop-d-preserved-in-Moved c = folded_moved _ _ _ _ _ c.loop-d.invariant (sym c.step.ensures ∙ c.in-Moved.is)

pub put_part-requires : goal.put_part-requires
put_part-requires c = let h = c.requires in
    let r = room (goal.at.put_part-requires c).In-Unit in
    let l = puts_length _ _ _ _ _ _ _ _ c.loop-d.invariant in
    let i = puts_inside _ _ _ _ _ _ _ _ c.loop-d.invariant h.0 h.1 (sym c.step.ensures ∙ c.in-Unit.is) in
    (omega arith, omega arith)

pub overflow_add-at : goal.overflow_add-at
overflow_add-at c = let r = room (goal.at.overflow_add-at c).In-Unit in let k = c.well_formed.0 in omega arith

pub loop-d-smaller : goal.loop-d-smaller
loop-d-smaller c = let l = unit_less _ _ _ _ (sym c.step.ensures ∙ c.in-Unit.is) in omega arith

pub loop-d-preserved : goal.loop-d-preserved
loop-d-preserved c = let h = c.requires in rw c.put_part.ensures (puts_take _ _ _ _ _ _ _ _ c.loop-d.invariant h.0 h.1 (sym c.step.ensures ∙ c.in-Unit.is) h.3)
