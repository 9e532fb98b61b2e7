-- One sample more is known. Assumes nothing.
use native.Mathlib.Omega.{arith}
use Rattle.delivery.proofs.Folds.{content_most}
use Rattle.delivery.proofs.Steps.{sample_from}
use Rattle.verdicts.proofs.Known.{survey_formed, survey_other}
use Rattle.verdicts.proofs.surveys.mark_sample.Goals as goal

pub mark_one-form-requires : goal.mark_one-form-requires
mark_one-form-requires c = let l = content_most c.args.b.now c.args.t.now c.args.m.0 in
    (rw c.sample_bytes-x.ensures (omega (arith, c.requires.0)), omega (arith, c.requires.1, c.requires.2.room))

pub returns-then-form-eq-FORMED : goal.returns-then-form-eq-FORMED
returns-then-form-eq-FORMED c = let a = c.args in
    survey_formed a.b.now a.t.now a.forms.now a.rows.now a.used c.requires.2 a.m.0 _ _ _ (sample_from a.b.now a.t.now a.m.0 c.track_of-k.ensures c.sample_bytes-x.ensures) c.mark_one-form.ensures c.if-forms-at.false c.if-form-eq-FORMED.true

pub returns : goal.returns
returns c = let a = c.args in
    survey_other a.b.now a.t.now a.forms.now a.rows.now a.used c.requires.2 a.m.0 _ _ _ (sample_from a.b.now a.t.now a.m.0 c.track_of-k.ensures c.sample_bytes-x.ensures) c.mark_one-form.ensures c.if-forms-at.false c.if-form-eq-FORMED.false
