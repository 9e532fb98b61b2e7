-- A bundle that is refused is so by its own refusal; the table has room for any. Assumes nothing.
use Rattle.std.proofs.lemmas.Result.{err_from_is_err_and}
use native.Mathlib.Omega.{arith}
use mathlib.Core.Path.{sym, ◌∙◌}
use Rattle.resolution_rules.proofs.Calls.{number_there}
use Rattle.filling.proofs.Promises.{table_refuses}
use Rattle.judging.proofs.Numbers.{no_fault, some_fault}
use Rattle.contents.proofs.Answered.{reference_refused, reference_past, reference_found}
use Rattle.contents.proofs.reference_entry.Goals as goal

pub returns-in_err-check_number : goal.returns-in_err-check_number
returns-in_err-check_number c =
    let p = err_from_is_err_and c.from_residual-in_err-check_number.result c.from_residual-in_err-check_number.ensures.1 in
    let f = some_fault _ (rw c.reference_total.ensures.0 at c.check_number.ensures) c.in_err-check_number.was in
    rw (p.1, p.2, f.2) (sym (reference_past _ _ (sym c.fill_table.ensures.0 ∙ c.in_ok-fill_table.was) c.fill_table.ensures.1 _ f.0 f.1))

pub overflow_add-row : goal.overflow_add-row
overflow_add-row c = let w = number_there _ _ (no_fault _ c.check_number.ensures c.in_ok-check_number.was) in omega (arith, w.1, c.reference_total.ensures.1)

pub returns-in_err-fill_table : goal.returns-in_err-fill_table
returns-in_err-fill_table c =
    let p = err_from_is_err_and c.from_residual.result c.from_residual.ensures.1 in
    rw (p.1, p.2) (sym (reference_refused _ (table_refuses _ _ _ (omega arith) (sym c.fill_table.ensures.0 ∙ c.in_err-fill_table.was)) _))

pub returns : goal.returns
returns c = rw (c.cell-2.ensures, c.cell.ensures) (sym (reference_found _ _ (sym c.fill_table.ensures.0 ∙ c.in_ok-fill_table.was) c.fill_table.ensures.1 _ (no_fault _ (rw c.reference_total.ensures.0 at c.check_number.ensures) c.in_ok-check_number.was)))
