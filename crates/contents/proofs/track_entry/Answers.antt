-- A bundle that is refused is so by its own refusal; the table has room for any. Assumes nothing.
use Rattle.std.proofs.lemmas.Result.{err_from_is_err_and}
use native.Mathlib.Omega.{arith}
use mathlib.Core.Path.{sym, ◌∙◌}
use Rattle.bundles.specs.Tracks.{record_part}
use Rattle.bundles.proofs.Sections.{track_good}
use Rattle.filling.proofs.Promises.{table_refuses}
use Rattle.judging.proofs.Numbers.{no_fault, some_fault}
use Rattle.contents.proofs.Answered.{track_refused, track_past, track_there, track_found}
use Rattle.contents.proofs.track_entry.Goals as goal

pub returns-in_err-check_number : goal.returns-in_err-check_number
returns-in_err-check_number c =
    let p = err_from_is_err_and c.from_residual-in_err-check_number.result c.from_residual-in_err-check_number.ensures.1 in
    let f = some_fault _ (rw c.track_total.ensures.0 at c.check_number.ensures) c.in_err-check_number.was in
    rw (p.1, p.2, f.2) (sym (track_past _ _ (sym c.fill_table.ensures.0 ∙ c.in_ok-fill_table.was) c.fill_table.ensures.1 _ f.0 f.1))

pub place-p-requires : goal.place-p-requires
place-p-requires c = track_there _ _ (sym c.fill_table.ensures.0 ∙ c.in_ok-fill_table.was) c.fill_table.ensures.1 _ (no_fault _ (rw c.track_total.ensures.0 at c.check_number.ensures) c.in_ok-check_number.was)

pub overflow_add-result : goal.overflow_add-result
overflow_add-result c = let g = track_good _ _ c.place-p.ensures.1 in omega (arith, g.head)

pub record_length-requires : goal.record_length-requires
record_length-requires c = c.place-p.ensures.1

pub returns-in_err-fill_table : goal.returns-in_err-fill_table
returns-in_err-fill_table c =
    let p = err_from_is_err_and c.from_residual.result c.from_residual.ensures.1 in
    rw (p.1, p.2) (sym (track_refused _ (table_refuses _ _ _ (omega arith) (sym c.fill_table.ensures.0 ∙ c.in_err-fill_table.was)) _))

pub returns : goal.returns
unfolding record_part
returns c = rw (c.record_length.ensures, c.track_kind.ensures, c.place-p.ensures.0) (sym (track_found _ _ (sym c.fill_table.ensures.0 ∙ c.in_ok-fill_table.was) c.fill_table.ensures.1 _ (no_fault _ (rw c.track_total.ensures.0 at c.check_number.ensures) c.in_ok-check_number.was)))
