-- A bundle that is refused is so by its own refusal; the table has room for any. Assumes nothing.
use Rattle.std.proofs.lemmas.Result.{err_from_is_err_and}
use native.Mathlib.Omega.{arith}
use mathlib.Core.Path.{sym, ◌∙◌}
use lib.ListN.{length}
use Rattle.words.proofs.Buffers.{refuse_all}
use Rattle.bundles.specs.Readers.{first_layout}
use Rattle.filling.proofs.Promises.{table_refuses, table_short}
use Rattle.range_rules.proofs.Calls.{range_bundle}
use Rattle.range.proofs.Answers.{filled_range}
use Rattle.range.proofs.range.Goals as goal

pub range_accepted-requires : goal.range_accepted-requires
range_accepted-requires c = let f = c.fill_table.ensures in (table_short _ _ (sym f.0 ∙ c.in_ok-fill_table.was), omega arith)

pub returns-in_err-fill_table : goal.returns-in_err-fill_table
returns-in_err-fill_table c =
    let p = err_from_is_err_and c.from_residual.result c.from_residual.ensures.1 in
    rw (p.1, p.2) (let a = c.args in
    refuse_all (range_bundle first_layout a.b.now a.first.0 a.last.0 _ _ (table_refuses a.b.now _ _ (omega arith) (sym c.fill_table.ensures.0 ∙ c.in_err-fill_table.was))))

pub returns : goal.returns
returns c = let a = c.args in let f = c.fill_table.ensures in
    rw (← filled_range a.b.now _ (sym f.0 ∙ c.in_ok-fill_table.was) f.1 a.first.0 a.last.0 (length a.out.now) (length a.lines.now)) c.range_accepted.ensures
