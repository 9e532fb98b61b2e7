-- The audit of a bundle (01, 'Audit and naming list').
--
--   outcome_of r n            what the audit finds of sample n: passed, empty or refused
--   line_size                 the bytes of a line: 13
--   line_bytes v units        an audit line
--   line_of r n               the line of sample n
--   lines r                   a line a sample, in order
--   tally r                   how many samples passed, are empty, are refused
--   audit_call reader b room  the call on a bundle, with room for the lines: 1 to 13, 29, or the lines
--   tally_call reader b room  the same call's tally
use Rattle.std.specs.Prelude.{ℕ, ◌+◌, List, [], ◌∷◌, ◌++◌, map, length}
use Rattle.words.specs.Tests.{◌≡?◌, pick}
use Rattle.words.specs.Refusals.{Answer, refused, ok, Verdict, ◌and_then◌, number_of, place_of}
use Rattle.words.specs.Lists.{each, upto}
use Rattle.words.specs.Bytes.{bytes}
use Rattle.words.specs.Buffers.{room_verdict, within}
use Rattle.numbers.specs.Places.{place_size}
use Rattle.bundles.specs.Recordings.{Recording, sample_count, content_of}
use Rattle.bundles.specs.Readers.{Reader}
use Rattle.resolution_rules.specs.Resolving.{judged, delivered, good}
use Rattle.resolution_rules.specs.Calls.{on_bundle}
use Rattle.tally.specs.Tallies.{tallied}
use Rattle.tally.specs.declared.Outcome.{Outcome}
use Rattle.tally.specs.declared.Outcome.TheVariants.{Passed, Empty, Refused}
use Rattle.tally.specs.declared.Tally.{Tally}

-- refusal, place, units delivered
abbrev pub refusal_size : ℕ
refusal_size = 1

abbrev pub units_size : ℕ
units_size = 8

abbrev pub line_size : ℕ
line_size = refusal_size + place_size + units_size

-- Refusal and place are zero for a passed or empty sample; a refused one has zero units.
abbrev pub units_of : Verdict → ℕ → ℕ
units_of (refused n p) units = 0
units_of (ok u) units = units

unfoldable pub line_bytes : Verdict → ℕ → List ℕ
line_bytes v units = bytes refusal_size (number_of v) ++ bytes place_size (place_of v) ++ bytes units_size (units_of v units)

module _ (r : Recording) where
  -- Empty is length 0 and nothing else; a sample with bytes passes if its whole length is good.
  unfoldable pub outcome_of : ℕ → Outcome
  outcome_of n = pick (length (content_of r n) ≡? 0) Empty (pick (good r n) Passed Refused)

  unfoldable pub line_of : ℕ → List ℕ
  line_of n = line_bytes (judged r n) (length (delivered r n))

  unfoldable pub lines : List ℕ
  lines = each line_of (upto (sample_count r.layout))

  unfoldable pub tally : Tally
  tally = tallied (map outcome_of (upto (sample_count r.layout)))

-- the tally, but 29 where the lines do not fit
abbrev pub tally_within : Recording → ℕ → Answer Tally
tally_within r room = room_verdict (room ∷ []) (lines r ∷ []) and_then ok (tally r)

module _ (reader : Reader) (b : List ℕ) (room : ℕ) where
  unfoldable pub audit_call : Answer (List ℕ)
  audit_call = within room (on_bundle reader b (λ r. ok (lines r)))

  -- refused exactly as the lines are
  unfoldable pub tally_call : Answer Tally
  tally_call = on_bundle reader b (λ r. tally_within r room)
