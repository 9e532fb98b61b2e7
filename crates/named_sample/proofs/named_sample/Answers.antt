-- A bundle that is refused is so by its own refusal; the table has room for any. Assumes nothing.
use Rattle.std.proofs.lemmas.Result.{err_from_is_err_and}
use native.Mathlib.Omega.{arith}
use mathlib.Core.Path.{sym, ◌∙◌}
use Rattle.filling.proofs.Promises.{table_refuses}
use Rattle.bundles.specs.Readers.{first_layout}
use Rattle.resolution_rules.proofs.Calls.{named_bundle}
use Rattle.named_sample.proofs.Named.{named_filled}
use Rattle.named_sample.proofs.named_sample.Goals as goal

pub returns-in_err-fill_table : goal.returns-in_err-fill_table
returns-in_err-fill_table c =
    let p = err_from_is_err_and c.from_residual.result c.from_residual.ensures.1 in
    rw (p.1, p.2) (let a = c.args in
    sym (named_bundle first_layout a.b.now a.n.0 a.at.0 (table_refuses a.b.now _ _ (omega arith) (sym c.fill_table.ensures.0 ∙ c.in_err-fill_table.was))))

pub returns : goal.returns
returns c = let a = c.args in
    let f = c.fill_table.ensures in
    c.name_at.ensures ∙ named_filled a.b.now a.n.0 a.at.0 _ (sym f.0 ∙ c.in_ok-fill_table.was) f.1
