-- What the answers of the code say.
--
--   lines_answer       a bundle audited: how many bytes of lines are written
--   tally_answer       its tally
use Rattle.std.specs.Prelude.{ℕ, Err, Ok, Result}
use Rattle.words.specs.Refusals.{Answer, refused, ok}
use Rattle.tally.specs.declared.Tally.{Tally}
use Rattle.audit.specs.declared.Report.{Report}
use Rattle.numbers.specs.declared.Refusal.{Refusal}

abbrev pub lines_answer : Result Report Refusal → Answer ℕ
lines_answer (Err f) = refused f.number f.place.0
lines_answer (Ok r) = ok r.count

abbrev pub tally_answer : Result Report Refusal → Answer Tally
tally_answer (Err f) = refused f.number f.place.0
tally_answer (Ok r) = ok r.tally
