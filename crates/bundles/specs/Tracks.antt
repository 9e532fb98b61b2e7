-- Section one of a bundle b: tracks (01, 'The bundle', 1). The count; each: kind, record length, the record.
-- A place p is where an entry starts. Places do not stop at faults: the first refusal is what counts, and what lies behind it has no use.
--
--   track_count b, tracks_at b        the count, and where the first entry stands
--   kind_at b p, record_at b p        the kind and the record of the entry at p
--   record_length b p, track_end b p  the record's length, and where the entry ends
--   record_part_at b p                where its record stands
--   size_at b p                       L, its length size, as a number
--   track_fault b p                   its refusal: 2, 4, or the record's
--   tracks_verdict b                  the section's first refusal
--   tracks b                          what it means
--   record_part b k                   where the record of track k stands
--   references_at b                   where section two starts
use Rattle.std.specs.Prelude.{ℕ, ◌+◌, List, map, None, Option, Some}
use Rattle.words.specs.RefusalNumbers.{unknown_kind}
use Rattle.words.specs.Refusals.{◌or_else◌, Verdict, ◌and_then◌, ◌at_place◌, first}
use Rattle.words.specs.Lists.{nth}
use Rattle.words.specs.Walks.{entries, skip}
use Rattle.words.specs.Bytes.{byte_at, big}
use Rattle.numbers.specs.Kinds.{kind_of}
use Rattle.numbers.specs.Sizes.{length_size_of}
use Rattle.numbers.specs.declared.Kind.{Kind}
use Rattle.numbers.specs.declared.Kind.TheVariants.{Avc}
use Rattle.numbers.specs.declared.LengthSize.{LengthSize}
use Rattle.numbers.specs.declared.LengthSize.TheVariants.{One}
use Rattle.record_rules.specs.Read.{record_fault, length_size}
use Rattle.bundles.specs.Limits.{cut, count_fault, track_least, track_most}
use Rattle.bundles.specs.Fields.{track_count_size, record_length_size, record_length_offset, track_head_size}
use Rattle.bundles.specs.Parts.{BundlePart, bytes_in}
use Rattle.bundles.specs.Recordings.{Track}

-- the kind and the length size that a number says; a number that says none is refused (4, 11) wherever this matters
abbrev pub known_kind : Option Kind → Kind
known_kind (Some k) = k
known_kind None = Avc

abbrev pub known_size : Option LengthSize → LengthSize
known_size (Some l) = l
known_size None = One

-- 4: unknown kind; else the record's own refusal
abbrev pub record_fault_as : Option Kind → List ℕ → ℕ
record_fault_as (Some k) s = record_fault k s
record_fault_as None s = unknown_kind

module _ (b : List ℕ) where
  abbrev pub track_count : ℕ
  track_count = big b 0 track_count_size

  -- where the first entry stands
  abbrev pub tracks_at : ℕ
  tracks_at = track_count_size

  abbrev pub record_length : ℕ → ℕ
  record_length p = big b (p + record_length_offset) record_length_size

  abbrev pub track_end : ℕ → ℕ
  track_end p = p + track_head_size + record_length p

  abbrev pub kind_at : ℕ → Option Kind
  kind_at p = kind_of (byte_at b p)

  -- where the record of the entry at p stands, after the entry's head; its bytes
  abbrev pub record_part_at : ℕ → BundlePart
  record_part_at p = record { start = p + track_head_size; size = record_length p }

  abbrev pub record_at : ℕ → List ℕ
  record_at p = bytes_in b (record_part_at p)

  -- L as a number
  unfoldable pub size_at : ℕ → ℕ
  size_at p = length_size (known_kind (kind_at p)) (record_at p)

  -- the whole entry is there (2) before 4 and its record's refusals
  unfoldable pub track_fault : ℕ → ℕ
  track_fault p =
      cut b p track_head_size or_else
      cut b (p + track_head_size) (record_length p) or_else
      record_fault_as (kind_at p) (record_at p)

  abbrev pub track_places : List ℕ
  track_places = entries track_end track_count tracks_at

  unfoldable pub tracks_verdict : Verdict
  tracks_verdict =
      count_fault b 0 track_count_size track_least track_most at_place 0
      and_then first (λ p. track_fault p at_place p) track_places

  abbrev pub track_on : ℕ → Track
  track_on p = record { kind = known_kind (kind_at p); length_size = known_size (length_size_of (size_at p)) }

  unfoldable pub tracks : List Track
  tracks = map track_on track_places

  -- the record of track k
  unfoldable pub record_part : ℕ → BundlePart
  record_part k = record_part_at (nth track_places k 0)

  -- where section two starts
  unfoldable pub references_at : ℕ
  references_at = skip track_end track_count tracks_at
