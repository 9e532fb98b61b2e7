-- A bundle that is refused is so by its own refusal; the table has room for any. Assumes nothing.
use Rattle.std.proofs.lemmas.Result.{err_from_is_err_and}
use native.Mathlib.Omega.{arith}
use mathlib.Core.Path.{sym, ◌∙◌}
use Rattle.filling.proofs.Promises.{table_refuses}
use Rattle.contents.proofs.Answered.{counts_refused, counts_filled}
use Rattle.contents.proofs.bundle_counts.Goals as goal

pub returns-in_err-fill_table : goal.returns-in_err-fill_table
returns-in_err-fill_table c =
    let p = err_from_is_err_and c.from_residual.result c.from_residual.ensures.1 in
    rw (p.1, p.2) (sym (counts_refused _ (table_refuses _ _ _ (omega arith) (sym c.fill_table.ensures.0 ∙ c.in_err-fill_table.was))))

pub returns : goal.returns
returns c = rw (c.track_total.ensures.0, c.reference_total.ensures.0, c.sample_count.ensures) (sym (counts_filled _ _ (sym c.fill_table.ensures.0 ∙ c.in_ok-fill_table.was) c.fill_table.ensures.1))
