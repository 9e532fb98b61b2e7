-- A bundle that is refused is so by its own refusal; the table has room for any. Assumes nothing.
use Rattle.std.proofs.lemmas.Result.{err_from_is_err_and}
use native.Mathlib.Omega.{arith}
use mathlib.Core.Path.{sym, ap, ◌∙◌}
use Rattle.bundles.specs.Readers.{first_layout}
use Rattle.filling.proofs.Promises.{table_refuses, table_short}
use Rattle.resolution_rules.specs.Calls.{placed_by, place_call}
use Rattle.resolution_rules.proofs.Calls.{unit_bundle}
use Rattle.delivered_unit.proofs.Answered.{place_filled, starts_inside}
use Rattle.delivered_unit.proofs.unit_place.Goals as goal

pub place_unit-requires : goal.place_unit-requires
place_unit-requires c = let d = sym c.fill_table.ensures.0 ∙ c.in_ok-fill_table.was in
    (table_short _ _ d, starts_inside _ _ d c.fill_table.ensures.1)

pub returns-in_err-fill_table : goal.returns-in_err-fill_table
unfolding place_call
returns-in_err-fill_table c =
    let p = err_from_is_err_and c.from_residual.result c.from_residual.ensures.1 in
    rw (p.1, p.2) (let a = c.args in
    sym (ap (placed_by (first_layout.content_at a.b.now)) (unit_bundle first_layout a.b.now a.n.0 a.k (table_refuses a.b.now _ _ (omega arith) (sym c.fill_table.ensures.0 ∙ c.in_err-fill_table.was)))))

pub returns : goal.returns
returns c = c.place_unit.ensures ∙ place_filled _ _ (sym c.fill_table.ensures.0 ∙ c.in_ok-fill_table.was) c.fill_table.ensures.1 _ _
