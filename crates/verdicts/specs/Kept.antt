-- Judgements kept in a table, each in the count beside its sample (01, 'Audit and naming list': refusal, place, units).
--
--   judgement_word a                a judgement in one number: its refusal, then the place; or 0, then how many units are delivered
--   units_of a                      a judgement: its refusal, or how many units are delivered
--   verdict_in w                    what such a number says
--   kept_answer                     the code's answer in these words
--   judged_size a                   how many bytes a judged sample adds to the output of a range: none if it is refused
--   sample_output_most              it is never more
--   judgements_upto b t n           the table with the judgements of the first n samples
--   judgements_between b t first n  the table with the judgements of samples first to n
--   with_judgements b t             with those of all; a bundle too long leaves it as it was
--   range_size_in b t first last    a bundle too long or a table too short, 30, or how long the joined output of the samples is
--   with_range b t first last       the table with their judgements; a refusal leaves it as it was
--   JudgedBetween b t first last    the table keeps the judgement of each of samples first to last
use Rattle.std.specs.Prelude.{ℕ, zero, suc, ◌+◌, ◌*◌, ◌/◌, ◌%◌, ◌≤◌, ◌≡◌, List, length, Err, Ok, Result}
use Rattle.words.specs.Tests.{◌<?◌, ◌≡?◌, pick}
use Rattle.words.specs.Refusals.{Answer, refused, ok, passed}
use Rattle.bundles.specs.Limits.{bundle_most}
use Rattle.bundles.specs.Recordings.{sample_count}
use Rattle.tables.specs.Tables.{layout_in, recording_in, kept_count_in, with_kept_count}
use Rattle.copies.specs.Written.{length_before}
use Rattle.resolution_rules.specs.Ranges.{between, joined}
use Rattle.judging.specs.Steps.{on_range_in, judgement}
use Rattle.judging.specs.declared.Amount.{Amount}
use Rattle.verdicts.specs.Surveys.{packing, packed}
use Rattle.numbers.specs.declared.Refusal.{Refusal}

abbrev pub judgement_word : Answer Amount → ℕ
judgement_word (refused n p) = packed n p
judgement_word (ok a) = packed 0 a.count

-- a judgement without the bytes that are delivered
abbrev pub units_of : Answer Amount → Answer ℕ
units_of (refused n p) = refused n p
units_of (ok a) = ok a.count

unfoldable pub verdict_in : ℕ → Answer ℕ
verdict_in w = pick (w % packing ≡? 0) (ok (w / packing)) (refused (w % packing) (w / packing))

abbrev pub kept_answer : Result ℕ Refusal → Answer ℕ
kept_answer (Err f) = refused f.number f.place.0
kept_answer (Ok k) = ok k

abbrev pub judged_size : Answer Amount → ℕ
judged_size (refused n p) = 0
judged_size (ok a) = a.own_bytes + a.copied_bytes + length_before * a.count

-- 2 to the 50th: no sample of a bundle that is not too long adds more
abbrev pub sample_output_most : ℕ
sample_output_most = 1125899906842624

module _ (b t : List ℕ) where
  unfoldable pub judgements_upto : ℕ → List ℕ
  judgements_upto zero = t
  judgements_upto (suc n) = with_kept_count (judgements_upto n) (suc n) (judgement_word (judgement (recording_in b t) (suc n)))

  unfoldable pub judgements_between : ℕ → ℕ → List ℕ
  judgements_between first zero = t
  judgements_between first (suc n) =
      let word = judgement_word (judgement (recording_in b t) (suc n)) in
      pick (suc n <? first) t (with_kept_count (judgements_between first n) (suc n) word)

  unfoldable pub with_judgements : List ℕ
  with_judgements = pick (bundle_most <? length b) t (judgements_upto (sample_count (layout_in t)))

  -- how long the joined output of samples first to last is
  unfoldable pub range_size_in : ℕ → ℕ → Answer ℕ
  range_size_in first last = on_range_in b t first last (ok (length (joined (recording_in b t) (between first last))))

  unfoldable pub with_range : ℕ → ℕ → List ℕ
  with_range first last = pick (passed (range_size_in first last)) (judgements_between first last) t

  abbrev pub JudgedBetween : ℕ → ℕ → Type 0
  JudgedBetween first last = (n : ℕ) → first ≤ n → n ≤ last → kept_count_in t n ≡ judgement_word (judgement (recording_in b t) n)
