-- The steps of the code on a bundle and any table, as definitions over the recording that they give.
--
--   verdict_of, units_in       a judged sample: its verdict, and how many units it delivers
--   outcome_in j size          what the audit finds of a judged sample of so many bytes
--   JudgementsKept b t         beside each sample of the table its judgement is kept
--   line_for a                 the line by a judgement: its refusal, or how many units are delivered
--   kept_lines t skipped last  the lines of the samples after the first `skipped` ones, up to last, by what the table keeps of them
use Rattle.std.specs.Prelude.{ℕ, ◌+◌, ◌≤◌, ◌<◌, ◌≡◌, List, Err, Ok, Result}
use Rattle.words.specs.Tests.{◌≡?◌, pick}
use Rattle.words.specs.Refusals.{Answer, refused, ok, Verdict}
use Rattle.words.specs.Lists.{each}
use Rattle.bundles.specs.Recordings.{sample_count}
use Rattle.tables.specs.Tables.{layout_in, recording_in, kept_count_in}
use Rattle.judging.specs.Steps.{judgement}
use Rattle.resolution_rules.specs.Ranges.{between}
use Rattle.tally.specs.declared.Outcome.{Outcome}
use Rattle.tally.specs.declared.Outcome.TheVariants.{Passed, Empty, Refused}
use Rattle.audit_rules.specs.Auditing.{line_bytes}
use Rattle.verdicts.specs.Kept.{judgement_word, verdict_in}
use Rattle.numbers.specs.declared.Refusal.{Refusal}

abbrev pub verdict_of : Result ℕ Refusal → Verdict
verdict_of (Err f) = refused f.number f.place.0
verdict_of (Ok k) = ok tt

abbrev pub units_in : Result ℕ Refusal → ℕ
units_in (Err f) = 0
units_in (Ok k) = k

abbrev pub outcome_in : Result ℕ Refusal → ℕ → Outcome
outcome_in (Err f) size = Refused
outcome_in (Ok k) size = pick (size ≡? 0) Empty Passed

-- beside each sample its judgement is kept
abbrev pub JudgementsKept : List ℕ → List ℕ → Type 0
JudgementsKept b t = (n : ℕ) → 0 < n → n ≤ sample_count (layout_in t) → kept_count_in t n ≡ judgement_word (judgement (recording_in b t) n)

abbrev pub line_for : Answer ℕ → List ℕ
line_for (refused n p) = line_bytes (refused n p) 0
line_for (ok units) = line_bytes (ok tt) units

unfoldable pub kept_lines : List ℕ → ℕ → ℕ → List ℕ
kept_lines t skipped last = each (λ n. line_for (verdict_in (kept_count_in t n))) (between (skipped + 1) last)
