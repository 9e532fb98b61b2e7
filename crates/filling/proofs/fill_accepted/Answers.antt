-- The places and counts of the sections, then the rows, one section after the other. Assumes nothing.
use native.Mathlib.Omega.{arith}
use mathlib.Core.Path.{◌≡◌, ap, ◌∙◌}
use mathlib.Core.List.{List}
use Prim.Native.Nat.{ℕ, ◌+◌, ◌*◌, ◌≤◌}
use lib.ListN.{length}
use Rattle.words.specs.Bytes.{big}
use Rattle.words.specs.Refusals.{ok}
use Rattle.bundles.specs.Bundles.{bundle_verdict}
use Rattle.bundles.specs.Tracks.{references_at}
use Rattle.bundles.specs.References.{reference_count, samples_at}
use Rattle.bundles.specs.Samples.{entry_count}
use Rattle.bundles.proofs.Sections.{accepted}
use Rattle.bundles.specs.Limits.{reference_most, sample_most}
use Rattle.bundles.specs.Fields.{reference_count_size, reference_size, sample_count_size}
use Rattle.filling.proofs.Accepted.{table_sections, short_here, done_here}
use Rattle.filling.proofs.fill_accepted.Goals as goal

-- the counts that were read, and where section three starts
module _ (b : List ℕ) {at references : ℕ} (e : at ≡ references_at b) (r : references ≡ big b at reference_count_size) where
  references-is : references ≡ reference_count b
  references-is = r ∙ ap (λ (x : ℕ). big b x reference_count_size) e

  samples-at : at + reference_count_size + references * reference_size ≡ samples_at b
  unfolding samples_at
  samples-at = rw (references-is, e)

  few : bundle_verdict b ≡ ok tt → (references ≤ reference_most) × (at + reference_count_size ≤ length b) × (samples_at b + sample_count_size ≤ length b)
  few v = let a = accepted b v in let f = a.references.count in (rw references-is f.few, rw e f.inside, a.samples.count.inside)

  module _ {samples : ℕ} (s : samples ≡ big b (at + reference_count_size + references * reference_size) sample_count_size) where
    samples-is : samples ≡ entry_count b
    samples-is = s ∙ ap (λ (x : ℕ). big b x sample_count_size) samples-at

    fewer : bundle_verdict b ≡ ok tt → samples ≤ sample_most
    fewer v = rw samples-is (accepted b v).samples.count.few

pub overflow_add-samples_at : goal.overflow_add-samples_at
overflow_add-samples_at c = let h = few _ c.references_at-at.ensures c.number-references.ensures c.requires in omega arith

pub overflow_mul-samples_at : goal.overflow_mul-samples_at
overflow_mul-samples_at c = let h = few _ c.references_at-at.ensures c.number-references.ensures c.requires in omega arith

pub overflow_add-samples_at-2 : goal.overflow_add-samples_at-2
overflow_add-samples_at-2 c = let h = few _ c.references_at-at.ensures c.number-references.ensures c.requires in
    let e = samples-at _ c.references_at-at.ensures c.number-references.ensures in
    omega arith

pub overflow_add-needed : goal.overflow_add-needed
overflow_add-needed c = let h = fewer _ c.references_at-at.ensures c.number-references.ensures c.number-samples.ensures c.requires in omega arith

pub overflow_add-needed-2 : goal.overflow_add-needed-2
overflow_add-needed-2 c = let h = fewer _ c.references_at-at.ensures c.number-references.ensures c.number-samples.ensures c.requires in omega arith

pub overflow_mul-needed : goal.overflow_mul-needed
overflow_mul-needed c = let h = fewer _ c.references_at-at.ensures c.number-references.ensures c.number-samples.ensures c.requires in omega arith

pub returns-then-t-needed : goal.returns-then-t-needed
returns-then-t-needed c = let a = c.args in
    let s = samples-is _ c.references_at-at.ensures c.number-references.ensures c.number-samples.ensures in
    let h = short_here a.b.now a.t.now c.number-samples.result c.requires s c.if-t-needed.true in
    rw c.at.ensures h

pub overflow_add-samples_at-3 : goal.overflow_add-samples_at-3
overflow_add-samples_at-3 c = let h = few _ c.references_at-at.ensures c.number-references.ensures c.requires in
    let e = samples-at _ c.references_at-at.ensures c.number-references.ensures in
    omega arith

pub fill_tracks-requires : goal.fill_tracks-requires
fill_tracks-requires c = (
  c.requires,
  ap (λ (x : ℕ). x + sample_count_size) (samples-at _ c.references_at-at.ensures c.number-references.ensures),
  samples-is _ c.references_at-at.ensures c.number-references.ensures c.number-samples.ensures,
  omega (arith, c.put_row.auto.t, c.if-t-needed.false),
)

pub overflow_add-at : goal.overflow_add-at
overflow_add-at c = let h = few _ c.references_at-at.ensures c.number-references.ensures c.requires in omega arith

pub fill_references-requires : goal.fill_references-requires
fill_references-requires c = (
  c.requires,
  ap (λ (x : ℕ). x + reference_count_size) c.references_at-at.ensures,
  references-is _ c.references_at-at.ensures c.number-references.ensures,
  omega (arith, c.put_row.auto.t, c.fill_tracks.auto.t, c.if-t-needed.false),
)

pub overflow_add-samples_at-4 : goal.overflow_add-samples_at-4
overflow_add-samples_at-4 c = let h = few _ c.references_at-at.ensures c.number-references.ensures c.requires in
    let e = samples-at _ c.references_at-at.ensures c.number-references.ensures in
    omega arith

pub fill_samples-requires : goal.fill_samples-requires
fill_samples-requires c = (
  c.requires,
  ap (λ (x : ℕ). x + sample_count_size) (samples-at _ c.references_at-at.ensures c.number-references.ensures),
  samples-is _ c.references_at-at.ensures c.number-references.ensures c.number-samples.ensures,
  omega (arith, c.put_row.auto.t, c.fill_tracks.auto.t, c.fill_references.auto.t, c.if-t-needed.false),
)

pub returns : goal.returns
returns c = let a = c.args in
    let r = references-is _ c.references_at-at.ensures c.number-references.ensures in
    let s = samples-is _ c.references_at-at.ensures c.number-references.ensures c.number-samples.ensures in
    done_here a.b.now a.t.now c.number-samples.result c.requires s c.if-t-needed.false
    (c.fill_samples.ensures ∙ rw (c.fill_references.ensures, c.fill_tracks.ensures, c.put_row.ensures, c.number-tracks.ensures, r, s) (table_sections a.b.now a.t.now))
