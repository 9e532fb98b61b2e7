-- A bundle that is refused is so by its own refusal; the table has room for any. Assumes nothing.
use Rattle.std.proofs.lemmas.Result.{err_from_is_err_and}
use native.Mathlib.Omega.{arith}
use mathlib.Core.Path.{sym, ◌∙◌}
use lib.ListN.{length}
use Rattle.words.proofs.Buffers.{refuse}
use Rattle.bundles.specs.Readers.{first_layout}
use Rattle.filling.proofs.Promises.{table_refuses, table_short}
use Rattle.audit_rules.proofs.Calls.{audit_bundle, tally_bundle}
use Rattle.audit.proofs.Answered.{lines_filled, tally_filled}
use Rattle.audit.proofs.audit.Goals as goal

pub audit_accepted-requires : goal.audit_accepted-requires
audit_accepted-requires c = (table_short _ _ (sym c.fill_table.ensures.0 ∙ c.in_ok-fill_table.was), omega (arith, c.fill_table.auto.t))

pub returns-in_err-fill_table : goal.returns-in_err-fill_table
returns-in_err-fill_table c =
    let p = err_from_is_err_and c.from_residual.result c.from_residual.ensures.1 in
    rw (p.1, p.2) (let a = c.args in
    let v = table_refuses a.b.now _ _ (omega arith) (sym c.fill_table.ensures.0 ∙ c.in_err-fill_table.was) in
    (refuse (audit_bundle first_layout a.b.now _ v), sym (tally_bundle first_layout a.b.now _ v)))

pub returns : goal.returns
returns c = let a = c.args in
    let room = length a.lines.now in
    let done = sym c.fill_table.ensures.0 ∙ c.in_ok-fill_table.was in
    let e = c.audit_accepted.ensures in
    (rw (← lines_filled _ _ done c.fill_table.ensures.1 room) e.0, e.1 ∙ tally_filled _ _ done c.fill_table.ensures.1 room)
