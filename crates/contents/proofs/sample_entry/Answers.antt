-- A bundle that is refused is so by its own refusal; the table has room for any. Assumes nothing.
use Rattle.std.proofs.lemmas.Result.{err_from_is_err_and}
use native.Mathlib.Omega.{arith}
use mathlib.Core.Path.{sym, ◌∙◌}
use Rattle.filling.proofs.Promises.{table_refuses}
use Rattle.judging.proofs.Numbers.{no_fault, some_fault}
use Rattle.contents.proofs.Answered.{sample_refused, sample_past, sample_found}
use Rattle.contents.proofs.sample_entry.Goals as goal

pub returns-in_err-check_number : goal.returns-in_err-check_number
returns-in_err-check_number c =
    let p = err_from_is_err_and c.from_residual-in_err-check_number.result c.from_residual-in_err-check_number.ensures.1 in
    let f = some_fault _ (rw c.sample_count.ensures at c.check_number.ensures) c.in_err-check_number.was in
    rw (p.1, p.2, f.2) (sym (sample_past _ _ (sym c.fill_table.ensures.0 ∙ c.in_ok-fill_table.was) c.fill_table.ensures.1 _ f.0 f.1))

pub returns-in_err-fill_table : goal.returns-in_err-fill_table
returns-in_err-fill_table c =
    let p = err_from_is_err_and c.from_residual.result c.from_residual.ensures.1 in
    rw (p.1, p.2) (sym (sample_refused _ (table_refuses _ _ _ (omega arith) (sym c.fill_table.ensures.0 ∙ c.in_err-fill_table.was)) _))

pub returns : goal.returns
returns c = rw (c.sample_start.ensures, c.sample_time.ensures, c.sample_track.ensures, c.sample_bytes-content.ensures) (sym (sample_found _ _ (sym c.fill_table.ensures.0 ∙ c.in_ok-fill_table.was) c.fill_table.ensures.1 _ (no_fault _ (rw c.sample_count.ensures at c.check_number.ensures) c.in_ok-check_number.was)))
