-- Request [4] of document 02, 'Extracting from inside an aggregator', nearly in its words, as theorems in plain facts. The proofs
-- stand in crates/promise_rules/proofs: IncludedLaws, CopyLaws. Assumes nothing.
--
--   copy_fault z o n, copied z o n  25 to 28, 0 for none, and the units of a copy of the sample z from data_offset o with
--                                   data_length n: the one definition that the code follows (crates/copies/specs/Copies)
--   CopyOf z o n qs                 none of 25 to 28, and the copy is the units qs (promise_rules/specs/Resolving)
--   CopyStarts z o                  o is a top-level unit, or one that an aggregator includes (the same)
--   ExtractorFault r n p k          the extractor at p of sample n is refused with k (the same, Refused)
--   TopCopy, IncludedCopy           a copy from the one, and from the other (the same, Copies)
--   IncludedEnds, BorderIn          where a copy from an included unit ends, and where it may (the same, Copies and Samples)
--
-- Which sample an extractor names does not change: Demands stays by text, all of it. `good_exactly`, `resolved_exactly` and
-- `resolve_refused` there say by `Extraction` and `ExtractorFault`, that is by `CopyOf` and its parts, what a sample delivers and
-- with which number it is refused.
use Rattle.std.specs.Prelude.{ℕ, ◌+◌, ◌≤◌, ◌<◌, ◌≡◌, refl, List, [], ◌∷◌, ◌↔◌}
use Rattle.words.specs.Lists.{◌∈◌, keep, each, some}
use Rattle.words.specs.Bytes.{Bytes, big}
use Rattle.words.specs.Refusals.{ok, first}
use Rattle.numbers.specs.declared.Kind.TheVariants.{Svc}
use Rattle.numbers.specs.declared.LengthSize.TheVariants.{One}
use Rattle.units.specs.Units.{Sample, size, type, unit_fault, places_from, top_units, border, top_between}
use Rattle.units.specs.Extractors.{track_ref_index, sample_offset, data_offset, data_length}
use Rattle.units.specs.Aggregators.{included, cover_fault, included_fault, with_included, units}
use Rattle.samples.specs.Check.{inside_verdict, cover_verdict, content_verdict, check}
use Rattle.bundles.specs.Recordings.{Recording, sample_count}
use Rattle.bundles.specs.Readers.{first_layout}
use Rattle.copies.specs.Copies.{copy_end, copy_ends, copied, border_fault, copy_fault, copy_units}
use Rattle.resolution_rules.specs.Resolving.{sample_of}
use Rattle.promise_rules.specs.Samples.{BorderAt, BorderIn, Formed}
use Rattle.promise_rules.specs.Resolving.{NamedBy, CopyStarts, CopyOf}
use Rattle.promise_rules.specs.Copies.{TopCopy, IncludedEnds, IncludedCopy}
use Rattle.promise_rules.specs.Refused.{ExtractorFault}
use Rattle.promise_rules.proofs.CopyLaws.{fault_26}
use Rattle.promise_rules.proofs.IncludedLaws as laws

-- An extractor that names sample m is refused with k exactly if its copy is; a copy without a fault, with its units, is a CopyOf
module _ (b : List ℕ) (bytes : Bytes b) (r : Recording) (accepted : first_layout.means b ≡ ok r) where
  pub fault_of_copy :
      (n p m : ℕ) → 0 < n → n ≤ sample_count r.layout →
      NamedBy r.layout n (track_ref_index (sample_of r n) p) (sample_offset (sample_of r n) p) m → (k : ℕ) → 0 < k →
      ExtractorFault r n p k ↔ (copy_fault (sample_of r m) (data_offset (sample_of r n) p) (data_length (sample_of r n) p) ≡ k)
  fault_of_copy = laws.fault_of_copy b bytes r accepted

module _ (z : Sample) (o n : ℕ) where
  pub copy_exactly : (qs : List ℕ) → ((copy_fault z o n ≡ 0) × (copied z o n ≡ qs)) ↔ CopyOf z o n qs
  copy_exactly = laws.copy_exactly z o n

  -- 26 shrinks: it is given exactly where neither a top-level unit nor an included one starts
  pub start_exactly : Formed z → (copy_fault z o n ≡ 26) ↔ (CopyStarts z o → ⊥)
  start_exactly = fault_26 z o n

  -- From a top-level unit a copy is what it was
  module _ (top : o ∈ top_units z) where
    pub top_copy : (qs : List ℕ) → CopyOf z o n qs ↔ TopCopy z o n qs
    top_copy = laws.top_copy z o n top

    pub top_27 : Formed z → (copy_fault z o n ≡ 27) ↔ ((0 < n) × (BorderAt z (o + n) → ⊥))
    top_27 = laws.top_27 z o n top

    -- an end inside an aggregator stays 27
    pub top_inside : Formed z → (p : ℕ) → p ∈ top_units z → o + n ∈ included z p → copy_fault z o n ≡ 27
    top_inside = laws.top_inside z o n top

-- From a unit that the aggregator at p includes
module _ (z : Sample) (p o : ℕ) (top : p ∈ top_units z) (in_p : o ∈ included z p) where
  -- no start is of both kinds, and none is included in two aggregators, whatever the bytes
  pub starts_apart : (o ∈ top_units z → ⊥) × ((a : ℕ) → a ∈ top_units z → o ∈ included z a → a ≡ p)
  starts_apart = laws.starts_apart z p o top in_p

  module _ (aggregator : type z p ≡ 30) where
    -- data_length 0 copies that one unit
    pub included_zero : (qs : List ℕ) → CopyOf z o 0 qs ↔ (Formed z × (qs ≡ o ∷ []) × (type z o ≡ 31 → ⊥))
    included_zero = laws.included_zero z p o top aggregator in_p

    module _ (n : ℕ) where
      -- another value must end on a border of units included in the same aggregator; the copy is units of that aggregator only
      pub included_copy : (qs : List ℕ) → CopyOf z o n qs ↔ IncludedCopy z p o n qs
      included_copy = laws.included_copy z p o top aggregator in_p n

      -- never 26; 27 exactly where the end is no such border, past the aggregator's end too; 28 exactly where an extractor that
      -- it includes is copied
      module _ (formed : Formed z) where
        pub included_26 : copy_fault z o n ≡ 26 → ⊥
        included_26 = laws.included_26 z p o top aggregator in_p n formed

        pub included_27 : (copy_fault z o n ≡ 27) ↔ ((0 < n) × (BorderIn z p (o + n) → ⊥))
        included_27 = laws.included_27 z p o top aggregator in_p n formed

        pub included_28 :
            (copy_fault z o n ≡ 28)
            ↔ ((e q : ℕ) × IncludedEnds z o n e × BorderIn z p e × (q ∈ included z p) × (o ≤ q) × (q < e) × (type z q ≡ 31))
        included_28 = laws.included_28 z p o top aggregator in_p n formed

-- In bytes, with L = 1: a unit at 0; an aggregator at 3 that includes units at 9 and 12; one at 16 that includes an extractor at
-- 22 and a unit at 31; one at 34 that includes a unit at 40 and covers the unit at 43; one at 46 that includes a unit at 52 and
-- ends the sample, at 55
abbrev pub example : Sample
example = record {
  kind = Svc;
  length_size = One;
  content =
      0x02 ∷ 0x41 ∷ 0xAA ∷
      0x0C ∷ 0x7E ∷ 0x80 ∷ 0x00 ∷ 0x03 ∷ 0x00 ∷ 0x02 ∷ 0x41 ∷ 0xBB ∷ 0x03 ∷ 0x41 ∷ 0x01 ∷ 0xCC ∷
      0x11 ∷ 0x7E ∷ 0x80 ∷ 0x00 ∷ 0x03 ∷ 0x00 ∷
      0x08 ∷ 0x7F ∷ 0x80 ∷ 0x00 ∷ 0x03 ∷ 0x01 ∷ 0x00 ∷ 0x00 ∷ 0x00 ∷ 0x02 ∷ 0x41 ∷ 0xDD ∷
      0x08 ∷ 0x7E ∷ 0x80 ∷ 0x00 ∷ 0x03 ∷ 0x03 ∷ 0x02 ∷ 0x41 ∷ 0xEE ∷
      0x02 ∷ 0x41 ∷ 0xFF ∷
      0x08 ∷ 0x7E ∷ 0x80 ∷ 0x00 ∷ 0x03 ∷ 0x00 ∷ 0x02 ∷ 0x41 ∷ 0x99 ∷ [];
}

-- the fault and the units of the copy from o with data_length n
abbrev copy : ℕ → ℕ → ℕ × List ℕ
copy o n = (copy_fault example o n, copy_units example o n)

pub in_bytes :
    -- one unit; up to the next one; up to the aggregator's end, which may be the sample's
    (copy 9 0 ≡ (0, 9 ∷ [])) × (copy 9 3 ≡ (0, 9 ∷ [])) × (copy 9 7 ≡ (0, 9 ∷ 12 ∷ [])) × (copy 12 0 ≡ (0, 12 ∷ []))
    × (copy 12 4 ≡ (0, 12 ∷ [])) × (copy 31 0 ≡ (0, 31 ∷ [])) × (copy 40 0 ≡ (0, 40 ∷ [])) × (copy 40 3 ≡ (0, 40 ∷ []))
    × (copy 52 3 ≡ (0, 52 ∷ []))
    -- an end inside a unit; at an included unit of the next aggregator; at a top-level border past the aggregator; past the
    -- sample
    × (copy 9 4 ≡ (27, [])) × (copy 9 13 ≡ (27, [])) × (copy 9 22 ≡ (27, [])) × (copy 9 25 ≡ (27, [])) × (copy 40 6 ≡ (27, []))
    × (copy 52 4 ≡ (27, []))
    -- an included extractor that is copied
    × (copy 22 0 ≡ (28, [])) × (copy 22 9 ≡ (28, [])) × (copy 22 12 ≡ (28, [])) × (copy 16 0 ≡ (28, []))
    -- a start in an aggregator's header, in its additional_bytes, in an included unit, at its first byte, at the end of an
    -- aggregator that ends the sample
    × (copy 4 0 ≡ (26, [])) × (copy 8 0 ≡ (26, [])) × (copy 14 0 ≡ (26, [])) × (copy 10 0 ≡ (26, [])) × (copy 55 0 ≡ (26, []))
    -- from the top: an aggregator; with what it covers; up to a border; an end inside an aggregator
    × (copy 3 0 ≡ (0, 9 ∷ 12 ∷ [])) × (copy 34 0 ≡ (0, 40 ∷ 43 ∷ [])) × (copy 0 16 ≡ (0, 0 ∷ 9 ∷ 12 ∷ []))
    × (copy 0 9 ≡ (27, [])) × (copy 3 6 ≡ (27, []))
unfolding copy_end copy_ends copied border_fault copy_fault copy_units keep each some first big size type unit_fault places_from top_units
    border top_between cover_fault included_fault with_included units inside_verdict cover_verdict content_verdict check
in_bytes = (
  refl,
  refl,
  refl,
  refl,
  refl,
  refl,
  refl,
  refl,
  refl,
  refl,
  refl,
  refl,
  refl,
  refl,
  refl,
  refl,
  refl,
  refl,
  refl,
  refl,
  refl,
  refl,
  refl,
  refl,
  refl,
  refl,
  refl,
  refl,
  refl,
)
