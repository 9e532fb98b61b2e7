-- What the calls on a bundle answer (01, 'Resolving', 'Numbers for no'): 1 to 13 first, then 30, then 14 to 28, then 29; for one delivered
-- unit 30 again, for its number, after 28; for one extractor 30 again, for its place, after 22; for a byte stream 32 between 28 and 29. A
-- reader says what a bundle b means; each order of refusals stands here once, for all calls.
--
--   span_bytes r u                      the bytes of a delivered unit
--   bytes_of r us                       the bytes of each of them
--   written r u, output r us            a delivered unit after a 4-byte length; delivered units so
--   number_fault count n                30
--   on_number count n a                 30 for the number n of count, else a
--   on_sample r n a                     30 for the sample number n, else a
--   on_good r n a                       30, then 14 to 28 of sample n, else a
--   on_unit r n k a                     the same, then 30 for the number k of a delivered unit, else a
--   on_meaning, on_bundle               1 to 13 of a bundle by a reader, else what is said of its recording
--   resolve r n                         sample n resolved
--   stream r n                          what sample n delivers as a byte stream: 32 after 28 (02, [2])
--   resolve_unit r n k                  the kth unit that sample n delivers
--   resolve_call reader b n room        the call on a bundle, with room for the output
--   stream_call reader b n room         the same, as a byte stream
--   unit_call reader b n k              the call for one unit
--   place_on starts u                   where a unit stands, by where samples start
--   placed_by starts a                  the same for an answer
--   place_call reader b n k             the call for where in the bundle that unit stands
--   part_numbers q, parts_by starts us  a part as two numbers; where units stand, two numbers each
--   parts_of r n starts                 where all units of sample n stand
--   parts_call reader b n room          the call for where in the bundle all units stand, with room for these numbers
--   named_in r n p                      the sample that the extractor at p of sample n names
--   named_call reader b n p             the call for it
--   span_in reader b u                  a delivered unit as a part of the bundle
--   unit_part reader b a                that part for the answer of unit_call; empty if refused
use Rattle.std.specs.Prelude.{ℕ, ◌+◌, List, [], ◌∷◌, ◌++◌, map, not, length}
use Rattle.words.specs.Tests.{out_of}
use Rattle.words.specs.RefusalNumbers.{no_such_number}
use Rattle.words.specs.Refusals.{◌if◌, Answer, refused, ok, ◌and_then◌, ◌at_place◌}
use Rattle.words.specs.Lists.{has, each, nth}
use Rattle.words.specs.Bytes.{bytes, part}
use Rattle.words.specs.Buffers.{within}
use Rattle.byte_streams.specs.Writing.{to_stream}
use Rattle.units.specs.Aggregators.{extractors}
use Rattle.samples.specs.Check.{check}
use Rattle.bundles.specs.Parts.{BundlePart}
use Rattle.bundles.specs.Recordings.{Recording, sample_count, content_of}
use Rattle.bundles.specs.Readers.{Reader}
use Rattle.copies.specs.Written.{length_before}
use Rattle.resolution_rules.specs.Resolving.{Span, own, named, name_fault_at, delivered, judged}

module _ (r : Recording) where
  abbrev pub span_bytes : Span → List ℕ
  span_bytes u = part (content_of r u.sample) u.start u.size

  abbrev pub bytes_of : List Span → List (List ℕ)
  bytes_of us = map span_bytes us

  unfoldable pub written : Span → List ℕ
  written u = bytes length_before u.size ++ span_bytes u

  unfoldable pub output : List Span → List ℕ
  output us = each written us

-- 30: a number 0 or past the last
unfoldable pub number_fault : ℕ → ℕ → ℕ
number_fault count n = no_such_number if out_of count n

abbrev pub on_number : {A : Type 0} → ℕ → ℕ → Answer A → Answer A
on_number count n a = number_fault count n at_place 0 and_then a

-- On a recording: 30 first; 30, then 14 to 28; 30 again, for the number of a unit.
module _ {A : Type 0} (r : Recording) (n : ℕ) where
  abbrev pub on_sample : Answer A → Answer A
  on_sample a = on_number (sample_count r.layout) n a

  abbrev pub on_good : Answer A → Answer A
  on_good a = on_sample (judged r n and_then a)

  abbrev pub on_unit : ℕ → Answer A → Answer A
  on_unit k a = on_good (on_number (length (delivered r n)) k a)

-- On a bundle: 1 to 13 first.
abbrev pub on_meaning : {A : Type 0} → Answer Recording → (Recording → Answer A) → Answer A
on_meaning (refused n p) call = refused n p
on_meaning (ok r) call = call r

abbrev pub on_bundle : {A : Type 0} → Reader → List ℕ → (Recording → Answer A) → Answer A
on_bundle reader b call = on_meaning (reader.means b) call

-- there is no unit 0
abbrev pub no_span : Span
no_span = record { sample = 0; start = 0; size = 0 }

module _ (r : Recording) (n : ℕ) where
  unfoldable pub resolve : Answer (List ℕ)
  resolve = on_good r n (ok (output r (delivered r n)))

  unfoldable pub stream : Answer (List ℕ)
  stream = on_good r n (to_stream (bytes_of r (delivered r n)))

  unfoldable pub resolve_unit : ℕ → Answer Span
  resolve_unit k = on_unit r n k (ok (nth (delivered r n) k no_span))

  -- 30, then 14 to 22 of the sample; 30 again where no extractor stands at p; then 23, 24 of that extractor alone
  unfoldable pub named_in : ℕ → Answer ℕ
  named_in p =
      on_sample r n (
      check (own r n)
      and_then (no_such_number if not (has p (extractors (own r n)))) at_place 0
      and_then name_fault_at r n p at_place p
      and_then ok (named r n p))

-- where a delivered unit stands, by where each sample starts
abbrev pub place_on : (ℕ → ℕ) → Span → BundlePart
place_on starts u = record { start = starts u.sample + u.start; size = u.size }

abbrev pub placed_by : (ℕ → ℕ) → Answer Span → Answer BundlePart
placed_by starts (refused n p) = refused n p
placed_by starts (ok u) = ok (place_on starts u)

-- two numbers a unit: start and size
abbrev pub part_numbers : BundlePart → List ℕ
part_numbers q = q.start ∷ q.size ∷ []

unfoldable pub parts_by : (ℕ → ℕ) → List Span → List ℕ
parts_by starts us = each (λ u. part_numbers (place_on starts u)) us

unfoldable pub parts_of : Recording → ℕ → (ℕ → ℕ) → Answer (List ℕ)
parts_of r n starts = on_good r n (ok (parts_by starts (delivered r n)))

module _ (reader : Reader) (b : List ℕ) where
  unfoldable pub resolve_call : ℕ → ℕ → Answer (List ℕ)
  resolve_call n room = within room (on_bundle reader b (λ r. resolve r n))

  unfoldable pub stream_call : ℕ → ℕ → Answer (List ℕ)
  stream_call n room = within room (on_bundle reader b (λ r. stream r n))

  unfoldable pub unit_call : ℕ → ℕ → Answer Span
  unit_call n k = on_bundle reader b (λ r. resolve_unit r n k)

  unfoldable pub place_call : ℕ → ℕ → Answer BundlePart
  place_call n k = placed_by (reader.content_at b) (unit_call n k)

  unfoldable pub parts_call : ℕ → ℕ → Answer (List ℕ)
  parts_call n room = within room (on_bundle reader b (λ r. parts_of r n (reader.content_at b)))

  unfoldable pub named_call : ℕ → ℕ → Answer ℕ
  named_call n p = on_bundle reader b (λ r. named_in r n p)

  unfoldable pub span_in : Span → List ℕ
  span_in u = part b (reader.content_at b u.sample + u.start) u.size

  abbrev pub unit_part : Answer Span → List ℕ
  unit_part (refused n p) = []
  unit_part (ok u) = span_in u
