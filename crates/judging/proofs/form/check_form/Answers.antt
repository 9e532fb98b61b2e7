-- A bundle too long comes first, then 30, then 14 to 22. Assumes nothing.
use Rattle.std.proofs.lemmas.Result.{err_from_is_err_and}
use mathlib.Core.Path.{sym, ap, ◌∙◌}
use Rattle.tables.specs.Tables.{recording_in}
use Rattle.samples.specs.Check.{check}
use Rattle.delivery.proofs.Steps.{sample_from}
use Rattle.judging.proofs.Judgements.{form_long, form_none, form_in_lem}
use Rattle.judging.proofs.Numbers.{no_fault, some_fault}
use Rattle.judging.proofs.form.check_form.Goals as goal

pub returns-then-b-gt-BUNDLE_MOST : goal.returns-then-b-gt-BUNDLE_MOST
returns-then-b-gt-BUNDLE_MOST c = rw c.at.ensures (sym (form_long _ _ _ c.if-b-gt-BUNDLE_MOST.true))

pub returns-in_err-check_number : goal.returns-in_err-check_number
unfolding recording_in
returns-in_err-check_number c =
    let p = err_from_is_err_and c.from_residual.result c.from_residual.ensures.1 in
    let f = some_fault _ (rw c.sample_count.ensures at c.check_number.ensures) c.in_err-check_number.was in
    rw (p.1, p.2, f.2) (sym (form_none _ _ _ c.if-b-gt-BUNDLE_MOST.false f.0 f.1))

pub returns : goal.returns
unfolding recording_in
returns c = let a = c.args in
    c.check_sample.ensures
    ∙ ap check (sample_from a.b.now a.t.now a.n.0 c.track_of.ensures c.sample_bytes.ensures)
    ∙ sym (form_in_lem a.b.now a.t.now a.n.0 c.if-b-gt-BUNDLE_MOST.false (no_fault _ (rw c.sample_count.ensures at c.check_number.ensures) c.in_ok-check_number.was))
