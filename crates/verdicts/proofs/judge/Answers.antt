-- The form comes first, then the extractors. Assumes nothing.
use Rattle.std.proofs.lemmas.Result.{err_from_is_err_and}
use mathlib.Core.Path.{◌≡◌, sym, ap, ◌∙◌}
use Rattle.words.specs.Refusals.{ok}
use Rattle.samples.specs.Check as form
use Rattle.delivery.proofs.Steps.{sample_from}
use Rattle.judging.specs.Steps.{form_in}
use Rattle.judging.proofs.Judgements.{form_good, good_judged, refused_judged}
use Rattle.verdicts.proofs.judge.Goals as goal
use Rattle.verdicts.proofs.judge.Goals.{In_ok-check_form}

-- the form is good
formed : (c : In_ok-check_form) → let a = c.args in form_in a.b.now a.t.now a.n.0 ≡ ok tt
formed c = sym c.check_form.ensures ∙ ap form.answer_of c.in_ok-check_form.was

pub judge_formed-requires : goal.judge_formed-requires
judge_formed-requires c = let a = c.args in
    let s = sample_from a.b.now a.t.now a.n.0 c.track_of-k.ensures c.sample_bytes-x.ensures in
    let g = form_good a.b.now a.t.now a.n.0 (formed (goal.at.judge_formed-requires c).In_ok-check_form) in
    (s, ap form.check s ∙ g.2, g.0)

pub returns-in_err-check_form : goal.returns-in_err-check_form
returns-in_err-check_form c =
    let p = err_from_is_err_and c.from_residual.result c.from_residual.ensures.1 in
    rw (p.1, p.2) (sym (refused_judged _ _ _ (sym c.check_form.ensures ∙ ap form.answer_of c.in_err-check_form.was)))

pub returns : goal.returns
returns c = c.judge_formed.ensures ∙ sym (good_judged _ _ _ (formed (goal.at.returns c).In_ok-check_form))
