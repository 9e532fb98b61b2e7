-- The loop's invariant: the rows of the first i references are written, and p is the place of the next. Assumes nothing.
use mathlib.Core.Path.{◌≡◌, refl, sym, ap, ◌∙◌}
use Prim.Native.Nat.{◌+◌, ◌≤◌, ℕ, ◌<◌}
use lib.ListN.{length}
use Rattle.words.specs.Walks.{skip}
use Rattle.filling.specs.Filling.{reference_cells}
use Rattle.bundles.specs.Limits.{reference_most}
use Rattle.bundles.specs.Fields.{reference_count_size, reference_size}
use Rattle.bundles.specs.Bundles.{layout_of}
use Rattle.tables.specs.Tables.{reference_row}
use Rattle.bundles.specs.References.{reference_count}
use Rattle.bundles.specs.Tracks.{references_at}
use Rattle.words.proofs.Entries.{skip_snoc}
use Rattle.bundles.proofs.Sections.{Accepted, accepted}
use Rattle.filling.proofs.Rows.{rows_none, rows_put, reference_row_lem, reference_sound}
use native.Mathlib.Omega.{arith}
use Rattle.filling.proofs.fill_references.Goals as goal
use Rattle.filling.proofs.fill_references.Goals.{In-loop-i}

all : (c : In-loop-i) → Accepted c.args.b.now
all c = accepted c.args.b.now c.requires.0

-- there are not too many
few : (c : In-loop-i) → (c.args.n ≤ reference_most) × (c.loop-i.i < reference_count c.args.b.now)
few c = let f = (all c).references.count.few in (omega (arith, c.requires.2), omega (arith, c.requires.2, c.loop-i-test.true))

-- the place of the reference at hand
placed : (c : In-loop-i) → c.loop-i.p ≡ skip (λ q. q + reference_size) c.loop-i.i (references_at c.args.b.now + reference_count_size)
placed c = rw (← c.requires.1) c.loop-i.invariant.0

inside : (c : In-loop-i) → c.loop-i.p + reference_size ≤ length c.args.b.now
inside c = reference_sound c.args.b.now (all c) c.loop-i.i c.loop-i.p (few c).1 (placed c)

pub loop-i-init : goal.loop-i-init
unfolding skip
loop-i-init c = (refl, refl, rows_none (reference_cells (layout_of c.args.b.now)) (λ k. refl) c.args.t.now (reference_row 1))

pub overflow_add-p : goal.overflow_add-p
overflow_add-p c = let h = inside (goal.at.overflow_add-p c).In-loop-i in omega arith

pub overflow_add-i : goal.overflow_add-i
overflow_add-i c = let h = few (goal.at.overflow_add-i c).In-loop-i in omega arith

pub put_row-requires : goal.put_row-requires
put_row-requires c = let h = few (goal.at.put_row-requires c).In-loop-i in (omega arith, omega (arith, c.requires.3, c.loop-i.invariant.1))

pub overflow_add-p-in-loop-i : goal.overflow_add-p-in-loop-i
overflow_add-p-in-loop-i c = let h = inside (goal.at.overflow_add-p-in-loop-i c).In-loop-i in omega arith

pub loop-i-preserved : goal.loop-i-preserved
loop-i-preserved c = let a = c.args in
    let b = a.b.now in
    let i = c.loop-i.i in
    let p = c.loop-i.p in
    let h = few (goal.at.loop-i-preserved c).In-loop-i in (
      ap (λ (q : ℕ). q + reference_size) c.loop-i.invariant.0 ∙ sym (skip_snoc (λ q. q + reference_size) i a.start),
      c.put_row.auto.t ∙ c.loop-i.invariant.1,
      c.put_row.ensures ∙ rows_put (reference_cells (layout_of b)) (λ k. refl) a.t.now (reference_row 1) i (reference_row 1 + i) c.loop-i.invariant.2
          (rw (c.number-from.ensures, c.number-to.ensures) (reference_row_lem b (all (goal.at.loop-i-preserved c).In-loop-i) i p h.1 (placed (goal.at.loop-i-preserved c).In-loop-i))) refl (omega (arith, c.requires.3)),
    )

pub shape_of-t : goal.shape_of-t
shape_of-t c = c.loop-i.invariant.1

pub returns : goal.returns
returns c = let e : c.loop-i.i ≡ c.args.n = omega arith in
    rw (← c.requires.2, ← e) c.loop-i.invariant.2
