-- A bundle that is refused is so by its own refusal; the table has room for any. Assumes nothing.
use Rattle.std.proofs.lemmas.Result.{err_from_is_err_and}
use native.Mathlib.Omega.{arith}
use mathlib.Core.Path.{sym, ◌∙◌}
use lib.ListN.{length}
use Rattle.words.proofs.Buffers.{refuse}
use Rattle.bundles.specs.Readers.{first_layout}
use Rattle.filling.proofs.Promises.{table_refuses, table_short}
use Rattle.resolution_rules.proofs.Calls.{call_bundle}
use Rattle.resolution.proofs.Answered.{call_filled}
use Rattle.resolution.proofs.resolve.Goals as goal

pub resolve_sample-requires : goal.resolve_sample-requires
resolve_sample-requires c = table_short _ _ (sym c.fill_table.ensures.0 ∙ c.in_ok-fill_table.was)

pub returns-in_err-fill_table : goal.returns-in_err-fill_table
returns-in_err-fill_table c =
    let p = err_from_is_err_and c.from_residual.result c.from_residual.ensures.1 in
    rw (p.1, p.2) (let a = c.args in
    refuse (call_bundle first_layout a.b.now a.n.0 _ (table_refuses a.b.now _ _ (omega arith) (sym c.fill_table.ensures.0 ∙ c.in_err-fill_table.was))))

pub returns : goal.returns
returns c = rw (← call_filled _ _ (sym c.fill_table.ensures.0 ∙ c.in_ok-fill_table.was) c.fill_table.ensures.1 c.args.n.0 (length c.args.out.now)) c.resolve_sample.ensures
