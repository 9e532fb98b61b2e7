-- What the code answers on a bundle and any table, over the recording that they give.
--
--   amount_for r n                how much sample n delivers
--   judgement r n                 14 to 28 of sample n, or how much it delivers
--   on_sample_in b t n a          by a bundle and any table beside it: a bundle too long, 30 for the number, else a
--   unfit b t                     a bundle too long, or a table too short for any bundle
--   on_range_in b t first last a  these, 30 for a range of samples, else a
--   judgement_in b t n            the judgement of sample n so
--   form_in b t n                 its form so: 14 to 22
--   answer_of                     the code's answer in these words
use Rattle.std.specs.Prelude.{ℕ, List, Bool, ◌||◌, length, Err, Ok, Result}
use Rattle.words.specs.Tests.{◌<?◌}
use Rattle.words.specs.RefusalNumbers.{bundle_too_long}
use Rattle.words.specs.Refusals.{◌if◌, Answer, Verdict, refused, ok, ◌and_then◌, ◌at_place◌}
use Rattle.samples.specs.Check.{check}
use Rattle.bundles.specs.Limits.{bundle_most}
use Rattle.bundles.specs.Recordings.{Recording}
use Rattle.tables.specs.Tables.{table_most, recording_in}
use Rattle.resolution_rules.specs.Resolving.{sample_of, delivered, judged}
use Rattle.resolution_rules.specs.Amounts.{own_bytes, copied_bytes}
use Rattle.resolution_rules.specs.Calls.{on_sample}
use Rattle.resolution_rules.specs.Ranges.{on_range}
use Rattle.judging.specs.declared.Amount.{Amount}
use Rattle.numbers.specs.declared.Refusal.{Refusal}

abbrev pub amount_for : Recording → ℕ → Amount
amount_for r n = record { count = length (delivered r n); own_bytes = own_bytes r n; copied_bytes = copied_bytes r n }

unfoldable pub judgement : Recording → ℕ → Answer Amount
judgement r n = judged r n and_then ok (amount_for r n)

abbrev pub on_sample_in : {A : Type 0} → List ℕ → List ℕ → ℕ → Answer A → Answer A
on_sample_in b t n a = (bundle_too_long if bundle_most <? length b) at_place 0 and_then on_sample (recording_in b t) n a

-- a bundle too long, or a table too short for any bundle
abbrev pub unfit : List ℕ → List ℕ → Bool
unfit b t = (bundle_most <? length b) || (length t <? table_most)

abbrev pub on_range_in : {A : Type 0} → List ℕ → List ℕ → ℕ → ℕ → Answer A → Answer A
on_range_in b t first last a = (bundle_too_long if unfit b t) at_place 0 and_then on_range (recording_in b t) first last a

unfoldable pub judgement_in : List ℕ → List ℕ → ℕ → Answer Amount
judgement_in b t n = on_sample_in b t n (judgement (recording_in b t) n)

unfoldable pub form_in : List ℕ → List ℕ → ℕ → Verdict
form_in b t n = on_sample_in b t n (check (sample_of (recording_in b t) n))

abbrev pub answer_of : Result Amount Refusal → Answer Amount
answer_of (Err f) = refused f.number f.place.0
answer_of (Ok a) = ok a
