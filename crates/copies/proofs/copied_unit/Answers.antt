-- A unit that is found lies in the sample, so its part does. Assumes nothing.
use native.Mathlib.Omega.{arith}
use native.Mathlib.Nat.{add-sub_cancel_left}
use mathlib.Core.Path.{sym, ◌∙◌}
use Prim.Native.Nat.{◌≤◌}
use lib.ListN.{length}
use Rattle.units.specs.Units.{sample, size, next}
use Rattle.copies.proofs.Ranges.{in_most}
use Rattle.copies.proofs.Plain.{unit_past, unit_place, plain_inside}
use Rattle.copies.proofs.copied_unit.Goals as goal
use Rattle.copies.proofs.copied_unit.Goals.{In-Some}

inside : (c : In-Some) → let a = c.args in next (sample a.k a.z.now) c.in-Some.at ≤ length a.z.now
inside c = plain_inside _ _ _ _ _ c.in-Some.ensures.0 c.in-Some.ensures.1

pub place_among-requires : goal.place_among-requires
place_among-requires c = rw c.copy_end_in-to.ensures (in_most _ _ _)

pub overflow_add-result : goal.overflow_add-result
unfolding size
overflow_add-result c = let w = inside (goal.at.overflow_add-result c).In-Some in omega arith

pub slice_bounds-result-end : goal.slice_bounds-result-end
unfolding size
slice_bounds-result-end c = let w = inside (goal.at.slice_bounds-result-end c).In-Some in omega arith

pub returns-in-None : goal.returns-in-None
returns-in-None c = let p = rw c.copy_end_in-to.ensures at c.in-None.ensures in sym (unit_place _ _ _ _ ∙ rw p (unit_past _ _ (omega arith)))

pub returns-in-Some : goal.returns-in-Some
unfolding size
returns-in-Some c = let p = rw c.copy_end_in-to.ensures at c.in-Some.ensures.0 in
    rw (unit_place _ _ _ _, ← p, add-sub_cancel_left, c.number.ensures, c.bytes.ensures.0)
