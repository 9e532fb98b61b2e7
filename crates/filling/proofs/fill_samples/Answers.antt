-- The loop's invariant: the rows of the first i samples are written, p is the place of the next entry, and place that of the next sample's bytes.
-- Assumes nothing.
use native.Mathlib.Omega.{arith}
use mathlib.Core.Path.{◌≡◌, refl, sym, ◌∙◌}
use Prim.Native.Nat.{ℕ, ◌+◌, ◌*◌, ◌≤◌, ◌<◌}
use lib.ListN.{length}
use Rattle.bundles.specs.Limits.{sample_most}
use Rattle.bundles.specs.Fields.{sample_entry_size, byte_count_size}
use Rattle.bundles.specs.Bundles.{recording_of, content_at}
use Rattle.tables.specs.Tables.{sample_row}
use Rattle.bundles.specs.Samples.{entry_count, entry_at, length_at}
use Rattle.bundles.proofs.Sections.{accepted}
use Rattle.filling.specs.Filling.{sample_cells}
use Rattle.filling.proofs.Rows.{rows_none, rows_put, sample_row_lem, entry_sound, entries_inside, start_of, start_first, start_next, start_inside}
use Rattle.filling.proofs.fill_samples.Goals as goal
use Rattle.filling.proofs.fill_samples.Goals.{After-slice_known-1, In-loop-i}

-- there are not too many
few : (c : In-loop-i) → (c.args.n ≤ sample_most) × (c.loop-i.i < entry_count c.args.b.now)
few c = let f = (accepted c.args.b.now c.requires.0).samples.count.few in (omega (arith, c.requires.2), omega (arith, c.requires.2, c.loop-i-test.true))

-- the place of the entry at hand
placed : (c : In-loop-i) → c.args.start + c.loop-i.i * sample_entry_size ≡ entry_at c.args.b.now (c.loop-i.i + 1)
placed c = omega (arith, c.requires.1)

inside : (c : In-loop-i) → c.args.start + c.loop-i.i * sample_entry_size + sample_entry_size ≤ length c.args.b.now
inside c = entry_sound c.args.b.now (accepted c.args.b.now c.requires.0) c.loop-i.i _ (few c).1 (placed c)

-- where the next sample's bytes start
next : (c : In-loop-i) (size : ℕ) → size ≡ length_at c.args.b.now (c.args.start + c.loop-i.i * sample_entry_size) → c.loop-i.place + size ≡ start_of c.args.b.now (c.loop-i.i + 1)
next c size e = rw (c.loop-i.invariant.0, e, placed c) (start_next c.args.b.now c.loop-i.i (few c).1)

within : (c : After-slice_known-1) → c.args.start + c.args.n * sample_entry_size ≤ length c.args.b.now
within c = rw (c.requires.1, c.requires.2) (entries_inside c.args.b.now (accepted c.args.b.now c.requires.0))

pub overflow_mul-place : goal.overflow_mul-place
overflow_mul-place c = let h = within (goal.at.overflow_mul-place c).After-slice_known-1 in omega arith

pub overflow_add-place : goal.overflow_add-place
overflow_add-place c = let h = within (goal.at.overflow_add-place c).After-slice_known-1 in omega arith

pub overflow_add-place-2 : goal.overflow_add-place-2
overflow_add-place-2 c = let h = start_inside c.args.b.now 0 (accepted c.args.b.now c.requires.0) (omega arith) in
    let s = start_first c.args.b.now in
    let e : c.args.start + c.args.n * sample_entry_size + byte_count_size ≤ length c.args.b.now = rw (c.requires.1, c.requires.2) (omega arith) in
    omega arith

pub loop-i-init : goal.loop-i-init
loop-i-init c = let a = c.args in
    (rw (c.requires.1, c.requires.2) (sym (start_first a.b.now)), refl, rows_none (sample_cells (recording_of a.b.now) (content_at a.b.now)) (λ k. refl) a.t.now (sample_row 1))

pub overflow_add-p : goal.overflow_add-p
overflow_add-p c = let h = inside (goal.at.overflow_add-p c).In-loop-i in omega arith

pub overflow_add-p-in-loop-i : goal.overflow_add-p-in-loop-i
overflow_add-p-in-loop-i c = let h = inside (goal.at.overflow_add-p-in-loop-i c).In-loop-i in omega arith

pub overflow_add-i : goal.overflow_add-i
overflow_add-i c = let h = few (goal.at.overflow_add-i c).In-loop-i in omega arith

pub put_row-requires : goal.put_row-requires
put_row-requires c = let h = few (goal.at.put_row-requires c).In-loop-i in (omega arith, omega (arith, c.requires.3, c.loop-i.invariant.1))

pub overflow_add-place-in-loop-i : goal.overflow_add-place-in-loop-i
overflow_add-place-in-loop-i c = let f = few (goal.at.overflow_add-place-in-loop-i c).In-loop-i in
    let h = start_inside c.args.b.now (c.loop-i.i + 1) (accepted c.args.b.now c.requires.0) (omega arith) in
    let e = next (goal.at.overflow_add-place-in-loop-i c).In-loop-i _ c.number-size.ensures in
    omega arith

pub overflow_add-p-in-loop-i-2 : goal.overflow_add-p-in-loop-i-2
overflow_add-p-in-loop-i-2 c = let h = inside (goal.at.overflow_add-p-in-loop-i-2 c).In-loop-i in omega arith

pub loop-i-preserved : goal.loop-i-preserved
loop-i-preserved c = let a = c.args in
    let b = a.b.now in
    let i = c.loop-i.i in
    let p = a.start + i * sample_entry_size in
    let h = few (goal.at.loop-i-preserved c).In-loop-i in (
      next (goal.at.loop-i-preserved c).In-loop-i _ c.number-size.ensures,
      c.put_row.auto.t ∙ c.loop-i.invariant.1,
      c.put_row.ensures ∙ rows_put (sample_cells (recording_of b) (content_at b)) (λ k. refl) a.t.now (sample_row 1) i (sample_row 1 + i) c.loop-i.invariant.2
          (rw (c.number-time.ensures, c.number-size.ensures, c.loop-i.invariant.0) (sample_row_lem b i p c.requires.0 h.1 (placed (goal.at.loop-i-preserved c).In-loop-i))) refl (omega (arith, c.requires.3)),
    )

pub shape_of-t : goal.shape_of-t
shape_of-t c = c.loop-i.invariant.1

pub returns : goal.returns
returns c = let e : c.loop-i.i ≡ c.args.n = omega arith in
    rw (← c.requires.2, ← e) c.loop-i.invariant.2
