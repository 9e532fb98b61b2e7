-- By what is known of its form. Assumes nothing.
use Rattle.std.proofs.lemmas.Result.{err_from_is_err_and}
use mathlib.Core.Path.{◌≡◌, sym, ap, ◌∙◌, subst}
use Prim.Native.Nat.{ℕ}
use Rattle.words.specs.Refusals.{refused}
use Rattle.units.specs.Units.{sample}
use Rattle.samples.specs.Check.{check}
use Rattle.samples.specs.Check as form
use Rattle.bundles.specs.Recordings.{Recording}
use Rattle.tables.specs.Tables.{recording_in}
use Rattle.resolution_rules.specs.Resolving.{sample_of}
use Rattle.resolution_rules.proofs.Delivered.{judged_form}
use Rattle.delivery.proofs.Steps.{sample_from}
use Rattle.judging.specs.Steps.{judgement}
use Rattle.verdicts.specs.Surveys.{Tells}
use Rattle.verdicts.proofs.measuring.judge_known.Goals as goal
use Rattle.verdicts.proofs.measuring.judge_known.Goals.{After-known-form}

abbrev R : After-known-form → Recording
R c = recording_in c.args.b.now c.args.t.now

same : (c : After-known-form) → sample c.track_of-k.result c.sample_bytes-x.result.now ≡ sample_of (R c) c.args.n.0
same c = sample_from c.args.b.now c.args.t.now c.args.n.0 c.track_of-k.ensures c.sample_bytes-x.ensures

tells : (c : After-known-form) → Tells (sample_of (R c) c.args.n.0) c.known-form.result c.args.rows.now
tells c = subst (λ (f : ℕ). Tells (sample_of (R c) c.args.n.0) f c.args.rows.now) (sym c.known-form.ensures) (c.requires.1 c.args.n.0)

-- a form that is refused
ill : (c : After-known-form) {m q : ℕ} → check (sample_of (R c) c.args.n.0) ≡ refused m q → refused m q ≡ judgement (R c) c.args.n.0
unfolding judgement
ill c e = rw (judged_form (R c) c.args.n.0 e)

pub measure-requires : goal.measure-requires
measure-requires c = (same (goal.at.measure-requires c).After-known-form, ap check (same (goal.at.measure-requires c).After-known-form) ∙ (tells (goal.at.measure-requires c).After-known-form).whole c.if-form-eq-FORMED.true, c.requires.0, c.requires.1)

pub returns-then-form-eq-FORMED : goal.returns-then-form-eq-FORMED
returns-then-form-eq-FORMED c = c.measure.ensures

pub returns-then-form-ne0 : goal.returns-then-form-ne0
returns-then-form-ne0 c = ill (goal.at.returns-then-form-ne0 c).After-known-form ((tells (goal.at.returns-then-form-ne0 c).After-known-form).refusal c.if-form-ne0.true c.if-form-eq-FORMED.false)

pub measure-requires-2 : goal.measure-requires-2
measure-requires-2 c = (same (goal.at.measure-requires-2 c).After-known-form, sym c.check_sample.ensures ∙ ap form.answer_of c.in_ok-check_sample.was, c.requires.0, c.requires.1)

pub returns-in_err-check_sample : goal.returns-in_err-check_sample
returns-in_err-check_sample c =
    let p = err_from_is_err_and c.from_residual.result c.from_residual.ensures.1 in
    rw (p.1, p.2) (ill (goal.at.returns-in_err-check_sample c).After-known-form (sym (ap check (same (goal.at.returns-in_err-check_sample c).After-known-form)) ∙ sym c.check_sample.ensures ∙ ap form.answer_of c.in_err-check_sample.was))

pub returns : goal.returns
returns c = c.measure-2.ensures
