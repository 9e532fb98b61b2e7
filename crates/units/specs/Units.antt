-- The units of a sample (01, 'Units in a sample'; 5.3.4.2: each NAL unit stands after its length).
-- A place is the offset of a unit's length field in the sample. Bytes past the end read as 0; 14 and 15 come before they could matter.
--
--   Sample, sample k s                                                 a sample with what its track says of it
--   L, end                                                             the length size in bytes; where the sample ends
--   size, first_byte, type, next                                       the unit at a place, and where the next one starts
--   prefix_type, scalable_slice_type, aggregator_type, extractor_type  types of units
--   least_size t                                                       the least size of a unit of a type
--   unit_fault e p                                                     the first of 14 to 18 of the unit at p, in what ends at e
--   places p e                                                         where units start from p up to e
--   top_units                                                          the top-level units
--   border q                                                           q is a top-level border
--   top_between a b                                                    the top-level units from a up to b
use Rattle.std.specs.Prelude.{ℕ, zero, suc, ◌+◌, ◌-◌, List, [], ◌∷◌, Bool, ◌||◌, ◌&&◌, length}
use Rattle.words.specs.Tests.{◌<?◌, ◌≤?◌, ◌≡?◌, pick, ◌when◌else◌}
use Rattle.words.specs.Refusals.{◌if◌, ◌or_else◌}
use Rattle.words.specs.RefusalNumbers.{length_field_cut, unit_too_long, empty_unit, top_bit_set, unit_too_short}
use Rattle.words.specs.Lists.{keep, has}
use Rattle.words.specs.Bytes.{byte_at, big}
use Rattle.numbers.specs.Sizes.{in_bytes, header_size, least_aggregator}
use Rattle.numbers.specs.Headers.{forbidden_bit, nal_type}
use Rattle.numbers.specs.declared.Kind.{Kind}
use Rattle.numbers.specs.declared.LengthSize.{LengthSize}
use Rattle.units.specs.declared.Track.{Track}

-- A sample: the kind and the length size of its track, and its bytes.
pub record Sample : Type 0 where
  pub kind : Kind
  pub length_size : LengthSize
  pub content : List ℕ

abbrev pub sample : Track → List ℕ → Sample
sample k s = record { kind = k.kind; length_size = k.length_size; content = s }

-- Types of units (Table A.1).
abbrev pub prefix_type : ℕ
prefix_type = 14

abbrev pub scalable_slice_type : ℕ
scalable_slice_type = 20

abbrev pub aggregator_type : ℕ
aggregator_type = 30

abbrev pub extractor_type : ℕ
extractor_type = 31

module _ (x : Sample) where
  -- L, the length size of the sample's track in bytes
  abbrev pub L : ℕ
  L = in_bytes x.length_size

  abbrev pub end : ℕ
  end = length x.content

  -- The unit at a place: its size, its first byte, its type, and where the next unit starts.
  unfoldable pub size : ℕ → ℕ
  size p = big x.content p L

  abbrev pub first_byte : ℕ → ℕ
  first_byte p = byte_at x.content (p + L)

  unfoldable pub type : ℕ → ℕ
  type p = nal_type (first_byte p)

  abbrev pub next : ℕ → ℕ
  next p = p + L + size p

  abbrev pub is_aggregator : ℕ → Bool
  is_aggregator p = type p ≡? aggregator_type

  abbrev pub is_extractor : ℕ → Bool
  is_extractor p = type p ≡? extractor_type

  -- The least size of a unit of type t: types 14, 20, 30 and 31 have a 4-byte header, an aggregator also its additional_bytes.
  abbrev pub least_size : ℕ → ℕ
  least_size t =
      least_aggregator x.length_size when t ≡? aggregator_type else
      header_size when (t ≡? prefix_type) || (t ≡? scalable_slice_type) || (t ≡? extractor_type) else
      1

  -- 14 to 18, in number order, for the unit at p in what ends at e: the sample, or the aggregator that includes it.
  unfoldable pub unit_fault : ℕ → ℕ → ℕ
  unit_fault e p =
      length_field_cut if e <? p + L or_else
      unit_too_long if e <? next p or_else
      empty_unit if size p ≡? 0 or_else
      top_bit_set if forbidden_bit (first_byte p) or_else
      unit_too_short if size p <? least_size (type p)

  -- The places of units from p up to e, each right after the one before: at most e - p of them, since L is at least 1.
  -- They run on past a fault. That is harmless: only the first refusal of a walk counts.
  unfoldable pub places_from : ℕ → ℕ → ℕ → List ℕ
  places_from e zero p = []
  places_from e (suc n) p = let rest = p ∷ places_from e n (next p) in pick (e ≤? p) [] rest

  abbrev pub places : ℕ → ℕ → List ℕ
  places p e = places_from e (e - p) p

  -- The top-level units.
  unfoldable pub top_units : List ℕ
  top_units = places 0 end

  -- A top-level border: the start of a top-level unit, or the end of the sample.
  unfoldable pub border : ℕ → Bool
  border q = (q ≡? end) || has q top_units

  -- The top-level units from a up to b.
  unfoldable pub top_between : ℕ → ℕ → List ℕ
  top_between a b = keep (λ q. (a ≤? q) && (q <? b)) top_units
