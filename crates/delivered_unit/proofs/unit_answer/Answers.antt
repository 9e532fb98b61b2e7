-- A bundle that is refused is so by its own refusal; the table has room for any. Assumes nothing.
use Rattle.std.proofs.lemmas.Result.{err_from_is_err_and}
use native.Mathlib.Omega.{arith}
use mathlib.Core.Path.{sym, ◌∙◌}
use Rattle.bundles.specs.Readers.{first_layout}
use Rattle.filling.proofs.Promises.{table_refuses, table_short}
use Rattle.resolution_rules.proofs.Calls.{unit_bundle}
use Rattle.delivered_unit.proofs.Answered.{unit_filled}
use Rattle.delivered_unit.proofs.unit_answer.Goals as goal

pub find_unit-requires : goal.find_unit-requires
find_unit-requires c = table_short _ _ (sym c.fill_table.ensures.0 ∙ c.in_ok-fill_table.was)

pub returns-in_err-fill_table : goal.returns-in_err-fill_table
returns-in_err-fill_table c =
    let p = err_from_is_err_and c.from_residual.result c.from_residual.ensures.1 in
    rw (p.1, p.2) (let a = c.args in
    sym (unit_bundle first_layout a.b.now a.n.0 a.k (table_refuses a.b.now _ _ (omega arith) (sym c.fill_table.ensures.0 ∙ c.in_err-fill_table.was))))

pub returns : goal.returns
returns c = c.find_unit.ensures ∙ unit_filled _ _ (sym c.fill_table.ensures.0 ∙ c.in_ok-fill_table.was) c.fill_table.ensures.1 _ _
