-- Section two of a bundle b: references (01, 'The bundle', 2). The count; each: from-track, to-track.
--
--   reference_count b     the count
--   from b p, to b p      the two tracks of the reference at p
--   no_such_track b k     whether there is no track k
--   length_size_on b k    L of track k
--   reference_fault b p   its refusal: 2 or 5
--   references_verdict b  the section's first refusal
--   references b          what it means
--   samples_at b          where section three starts
use Rattle.std.specs.Prelude.{ℕ, ◌+◌, ◌*◌, List, map, Bool, not}
use Rattle.words.specs.Tests.{◌≡?◌, out_of}
use Rattle.words.specs.RefusalNumbers.{bad_reference}
use Rattle.words.specs.Refusals.{◌if◌, ◌or_else◌, Verdict, ◌and_then◌, ◌at_place◌, first}
use Rattle.words.specs.Lists.{nth}
use Rattle.words.specs.Walks.{entries}
use Rattle.words.specs.Bytes.{big}
use Rattle.numbers.specs.Sizes.{in_bytes}
use Rattle.bundles.specs.Limits.{cut, count_fault, reference_most}
use Rattle.bundles.specs.Fields.{reference_count_size, track_number_size, to_offset, reference_size}
use Rattle.bundles.specs.Recordings.{Reference, no_track}
use Rattle.bundles.specs.Tracks.{track_count, tracks, references_at}

module _ (b : List ℕ) where
  abbrev pub reference_count : ℕ
  reference_count = big b (references_at b) reference_count_size

  abbrev pub from : ℕ → ℕ
  from p = big b p track_number_size

  abbrev pub to : ℕ → ℕ
  to p = big b (p + to_offset) track_number_size

  unfoldable pub no_such_track : ℕ → Bool
  no_such_track k = out_of (track_count b) k

  -- L of track k
  abbrev pub length_size_on : ℕ → ℕ
  length_size_on k = in_bytes (nth (tracks b) k no_track).length_size

  -- 5: both tracks exist, differ, and have the same L
  unfoldable pub reference_fault : ℕ → ℕ
  reference_fault p =
      cut b p reference_size or_else
      bad_reference if no_such_track (from p) or_else
      bad_reference if no_such_track (to p) or_else
      bad_reference if from p ≡? to p or_else
      bad_reference if not (length_size_on (from p) ≡? length_size_on (to p))

  abbrev pub reference_places : List ℕ
  reference_places = entries (λ p. p + reference_size) reference_count (references_at b + reference_count_size)

  unfoldable pub references_verdict : Verdict
  references_verdict =
      count_fault b (references_at b) reference_count_size 0 reference_most at_place references_at b
      and_then first (λ p. reference_fault p at_place p) reference_places

  abbrev pub reference_on : ℕ → Reference
  reference_on p = record { from = from p; to = to p }

  unfoldable pub references : List Reference
  references = map reference_on reference_places

  -- where section three starts
  unfoldable pub samples_at : ℕ
  samples_at = references_at b + reference_count_size + reference_count * reference_size
