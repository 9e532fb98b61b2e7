-- A bundle that is refused gives no bytes; the table has room for any. Assumes nothing.
use native.Mathlib.Omega.{arith}
use mathlib.Core.Path.{sym, ap, ◌∙◌}
use Rattle.bundles.specs.Readers.{first_layout}
use Rattle.filling.proofs.Promises.{table_refuses, table_short}
use Rattle.resolution_rules.specs.Calls.{unit_part}
use Rattle.resolution_rules.proofs.Calls.{unit_bundle}
use Rattle.delivered_unit.proofs.Answered.{part_filled}
use Rattle.delivered_unit.proofs.unit_bytes.Goals as goal

pub unit_part-requires : goal.unit_part-requires
unit_part-requires c = table_short _ _ (sym c.fill_table.ensures.0 ∙ c.in-Ok.is)

pub returns-in-Err : goal.returns-in-Err
returns-in-Err c = let a = c.args in
    sym (ap (unit_part first_layout a.b.now) (unit_bundle first_layout a.b.now a.n.0 a.k (table_refuses a.b.now _ _ (omega arith) (sym c.fill_table.ensures.0 ∙ c.in-Err.is))))

pub returns-in-Ok : goal.returns-in-Ok
returns-in-Ok c = c.unit_part.ensures ∙ part_filled _ _ (sym c.fill_table.ensures.0 ∙ c.in-Ok.is) c.fill_table.ensures.1 _ _
