-- Each return is a case of the answer. Assumes nothing.
use Rattle.std.proofs.lemmas.Result.{err_from_is_err_and}
use Rattle.std.specs.Prelude.{Option, Some, None, Ok, Err, ok_or}
use mathlib.Core.Path.{◌≡◌, refl, sym, ap, ◌∙◌}
use Rattle.units.specs.declared.Extractor.{Extractor}
use Rattle.numbers.specs.declared.Refusal.{Refusal}
use Rattle.words.specs.Refusals.{ok}
use Rattle.units.specs.Units.{sample}
use Rattle.samples.specs.Check.{check, answer_of}
use Rattle.bundles.specs.Recordings.{sample_count}
use Rattle.tables.specs.Tables.{recording_in}
use Rattle.resolution_rules.specs.Resolving.{own}
use Rattle.resolution_rules.specs.Calls.{number_fault}
use Rattle.delivery.proofs.Steps.{sample_from}
use Rattle.resolution_rules.proofs.Calls.{named_number}
use Rattle.judging.proofs.Numbers.{no_fault, some_fault}
use Rattle.named_sample.proofs.Named.{in_form, in_none, in_extractor}
use Rattle.named_sample.proofs.name_at.Goals as goal
use Rattle.named_sample.proofs.name_at.Goals.{After-sample_bytes-x, In_ok-check_number, In_ok-check_sample}

-- the number is good
sound : (c : In_ok-check_number) → let a = c.args in number_fault (sample_count (recording_in a.b.now a.t.now).layout) a.n.0 ≡ 0
unfolding recording_in
sound c = no_fault _ (rw c.sample_count.ensures at c.check_number.ensures) c.in_ok-check_number.was

-- the sample, and that it is well formed
same : (c : After-sample_bytes-x) → let a = c.args in sample c.track_of-k.result c.sample_bytes-x.result.now ≡ own (recording_in a.b.now a.t.now) a.n.0
same c = let a = c.args in sample_from a.b.now a.t.now a.n.0 c.track_of-k.ensures c.sample_bytes-x.ensures

formed : (c : In_ok-check_sample) → check (sample c.track_of-k.result c.sample_bytes-x.result.now) ≡ ok tt
formed c = sym c.check_sample.ensures ∙ ap answer_of c.in_ok-check_sample.was

-- an extractor that stands there, or none
one_found : (o : Option Extractor) (d : Refusal) {f : Extractor} → Ok f ≡ ok_or o d → o ≡ Some f
one_found (Some g) d {f} h = let q : f ≡ g = cc in rw q
one_found None d h = absurd cc

none_found : (o : Option Extractor) (d e : Refusal) → Err e ≡ ok_or o d → (o ≡ None) × (e ≡ d)
none_found (Some g) d e h = absurd cc
none_found None d e h = (refl, cc)

pub returns-in_err-check_number : goal.returns-in_err-check_number
unfolding recording_in
returns-in_err-check_number c =
    let p = err_from_is_err_and c.from_residual.result c.from_residual.ensures.1 in
    let f = some_fault _ (rw c.sample_count.ensures at c.check_number.ensures) c.in_err-check_number.was in
    rw (p.1, p.2, f.2) (sym (named_number _ _ _ f.0 f.1))

pub extractor_in-requires : goal.extractor_in-requires
extractor_in-requires c = formed (goal.at.extractor_in-requires c).In_ok-check_sample

pub returns-in_err-check_sample : goal.returns-in_err-check_sample
returns-in_err-check_sample c =
    let p = err_from_is_err_and c.from_residual-in_err-check_sample.result c.from_residual-in_err-check_sample.ensures.1 in
    rw (p.1, p.2) (sym (in_form _ _ _ (sound (goal.at.returns-in_err-check_sample c).In_ok-check_number) _ (same (goal.at.returns-in_err-check_sample c).After-sample_bytes-x) (sym c.check_sample.ensures ∙ ap answer_of c.in_err-check_sample.was)))

pub returns-in_err-f : goal.returns-in_err-f
returns-in_err-f c =
    let w = goal.at.returns-in_err-f c in
    let p = err_from_is_err_and c.from_residual-in_err-f.result c.from_residual-in_err-f.ensures.1 in
    let e = none_found c.extractor_in.result _ _ c.in_err-f.ensures.value in
    rw (p.1, p.2, e.1, c.at.ensures) (sym (in_none _ _ _ (sound w.In_ok-check_number) _ (same w.After-sample_bytes-x) (formed w.In_ok-check_sample) (sym c.extractor_in.ensures ∙ e.0)))

pub returns : goal.returns
unfolding recording_in
returns c = let w = goal.at.returns c in c.name_with.ensures ∙ sym (in_extractor _ _ _ (sound w.In_ok-check_number) _ (same w.After-sample_bytes-x) (formed w.In_ok-check_sample) (sym c.extractor_in.ensures ∙ one_found c.extractor_in.result _ c.in_ok-f.ensures.value))
