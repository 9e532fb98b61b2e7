-- The length size of the record of a track entry, which lies in the bundle. Assumes nothing.
use Rattle.std.specs.Prelude.{None, Some}
use native.Mathlib.Omega.{arith}
use native.Mathlib.Nat.{add-sub_cancel_left}
use mathlib.Core.Path.{◌≡◌, sym, ◌∙◌}
use Prim.Native.Nat.{◌+◌}
use Rattle.bundles.specs.Fields.{track_head_size}
use Rattle.bundles.specs.Tracks.{kind_at, record_length, record_at, record_fault_as, size_at}
use Rattle.bundles.proofs.Sections.{TrackGood, track_good}
use Rattle.filling.proofs.length_size_at.Goals as goal
use Rattle.filling.proofs.length_size_at.Goals.{Start}

-- the entry is whole
good : (c : Start) → TrackGood c.args.b.now c.args.at
good c = track_good c.args.b.now c.args.at c.requires

pub overflow_add-start : goal.overflow_add-start
overflow_add-start c = let g = good (goal.at.overflow_add-start c).Start in omega (arith, g.head)

pub overflow_add-at : goal.overflow_add-at
overflow_add-at c = let g = good (goal.at.overflow_add-at c).Start in omega (arith, g.head)

pub overflow_add-end : goal.overflow_add-end
overflow_add-end c = let g = good (goal.at.overflow_add-end c).Start in omega (arith, g.inside, c.number.ensures)

pub slice_bounds-length_size-end : goal.slice_bounds-length_size-end
slice_bounds-length_size-end c = let g = good (goal.at.slice_bounds-length_size-end c).Start in omega (arith, g.inside, c.number.ensures)

pub returns-in-Some : goal.returns-in-Some
unfolding size_at
returns-in-Some c = let a = c.args in
    let k : kind_at a.b.now a.at ≡ Some c.in-Some.k = rw (← c.byte.ensures) (sym c.from_number-known.ensures ∙ c.in-Some.is) in
    rw (k, ← add-sub_cancel_left (a.at + track_head_size) (record_length a.b.now a.at), ← c.number.ensures) c.length_size.ensures

pub returns-in-None : goal.returns-in-None
returns-in-None c = let a = c.args in
    let k : kind_at a.b.now a.at ≡ None = rw (← c.byte.ensures) (sym c.from_number-known.ensures ∙ c.in-None.is) in
    let e : record_fault_as None (record_at a.b.now a.at) ≡ 0 = rw k at (good (goal.at.returns-in-None c).Start).whole in
    absurd (omega arith)
