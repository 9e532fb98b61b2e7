-- The rules of the audit in plain facts, in which the promises of proofs/Promises are stated.
--
--   Reads s m p count       what stands in the line s: refusal, place and units delivered, read back as numbers
--   line_at out n           line n
--   outcome_by_line s size  what a line and a sample's length say of the sample
--   SampleLine r n s o      s is the line of sample n, whose outcome is o: what stands in it, and what holds of the sample
--   LinePerSample r out     out has exactly one line a sample, in order
--   Counts r t              what the tally t counts
--   Audits, Tallies         when the call on a bundle answers, and with what
--   AuditRefuses            when it is refused
use Rattle.std.specs.Prelude.{ℕ, ◌+◌, ◌-◌, ◌*◌, ◌≤◌, ◌<◌, ◌≡◌, List, length}
use Rattle.words.specs.Tests.{◌≡?◌, pick}
use Rattle.words.specs.Refusals.{refused, ok}
use Rattle.words.specs.RefusalNumbers.{output_too_long}
use Rattle.words.specs.Lists.{keep, upto}
use Rattle.words.specs.Bytes.{big, part}
use Rattle.bundles.specs.Recordings.{Recording, sample_count, content_of}
use Rattle.bundles.specs.Readers.{Reader}
use Rattle.resolution_rules.specs.Resolving.{delivered, judged}
use Rattle.resolution_rules.specs.Rules.{JudgedRefusal}
use Rattle.tally.specs.Tallies.{is_passed, is_empty, is_refused}
use Rattle.tally.specs.declared.Outcome.{Outcome}
use Rattle.tally.specs.declared.Outcome.TheVariants.{Passed, Empty, Refused}
use Rattle.tally.specs.declared.Tally.{Tally}
use Rattle.numbers.specs.Places.{place_size}
use Rattle.audit_rules.specs.Auditing.{refusal_size, units_size, line_size, outcome_of, lines, tally}

pub record Reads (s : List ℕ) (m p count : ℕ) : Type 0 where
  pub size : length s ≡ line_size
  pub refusal : big s 0 refusal_size ≡ m
  pub place : big s refusal_size place_size ≡ p
  pub units : big s (refusal_size + place_size) units_size ≡ count

-- line n stands at 13 · (n - 1)
abbrev pub line_at : List ℕ → ℕ → List ℕ
line_at out n = part out (line_size * (n - 1)) line_size

-- A line without a refusal is empty or passed by the sample's length.
abbrev pub outcome_by_line : List ℕ → ℕ → Outcome
outcome_by_line s size = pick (big s 0 refusal_size ≡? 0) (pick (size ≡? 0) Empty Passed) Refused

module _ (r : Recording) where
  pub data SampleLine (n : ℕ) (s : List ℕ) : Outcome → Type 0 where
    -- bytes, and the whole length good: as many units as are delivered
    good : 0 < length (content_of r n) → judged r n ≡ ok tt → Reads s 0 0 (length (delivered r n)) → SampleLine n s Passed
    -- no bytes
    empty : length (content_of r n) ≡ 0 → Reads s 0 0 0 → SampleLine n s Empty
    -- 14 to 28, at a place in the sample
    bad : {m p : ℕ} → judged r n ≡ refused m p → JudgedRefusal r n m p → Reads s m p 0 → SampleLine n s Refused

  pub record LinePerSample (out : List ℕ) : Type 0 where
    pub size : length out ≡ line_size * sample_count r.layout
    pub line : (n : ℕ) → 0 < n → n ≤ sample_count r.layout → SampleLine n (line_at out n) (outcome_of r n)
    pub outcome :
        (n : ℕ) → 0 < n → n ≤ sample_count r.layout →
        outcome_by_line (line_at out n) (length (content_of r n)) ≡ outcome_of r n

  pub record Counts (t : Tally) : Type 0 where
    pub passed : t.passed ≡ length (keep (λ n. is_passed (outcome_of r n)) (upto (sample_count r.layout)))
    pub empty : t.empty ≡ length (keep (λ n. is_empty (outcome_of r n)) (upto (sample_count r.layout)))
    pub refused : t.refused ≡ length (keep (λ n. is_refused (outcome_of r n)) (upto (sample_count r.layout)))
    pub all : t.passed + t.empty + t.refused ≡ sample_count r.layout

-- the call on the bundle b with room for the lines: 1 to 13, then 29
module _ (reader : Reader) (b : List ℕ) (room : ℕ) where
  pub data AuditRefuses : ℕ → ℕ → Type 0 where
    bundle : {m p : ℕ} → reader.means b ≡ refused m p → AuditRefuses m p
    too_long : (r : Recording) → reader.means b ≡ ok r → room < line_size * sample_count r.layout → AuditRefuses output_too_long 0

  pub record Audits (out : List ℕ) : Type 0 where
    pub recording : Recording
    pub means : reader.means b ≡ ok recording
    pub fits : line_size * sample_count recording.layout ≤ room
    pub writes : out ≡ lines recording

  pub record Tallies (t : Tally) : Type 0 where
    pub recording : Recording
    pub means : reader.means b ≡ ok recording
    pub fits : line_size * sample_count recording.layout ≤ room
    pub counts : t ≡ tally recording
