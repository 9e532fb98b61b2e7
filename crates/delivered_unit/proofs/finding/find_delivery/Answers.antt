-- Each return is a case of the answer. Assumes nothing.
use Rattle.std.specs.Prelude.{Result}
use Rattle.std.proofs.lemmas.Result.{err_from_is_err_and}
use mathlib.Core.Path.{◌≡◌, sym, ap, ◌∙◌}
use Prim.Native.Nat.{ℕ}
use lib.ListN.{length}
use Rattle.tables.specs.Tables.{recording_in}
use Rattle.words.specs.Refusals.{ok, ◌at_place◌}
use Rattle.bundles.specs.Recordings.{Recording, sample_count}
use Rattle.resolution_rules.specs.Resolving.{delivered, judged}
use Rattle.resolution_rules.specs.Calls.{number_fault}
use Rattle.delivery.proofs.Steps.{sample_from}
use Rattle.numbers.specs.declared.Refusal.{Refusal}
use Rattle.samples.specs.Check.{answer_of}
use Rattle.judging.specs.Steps.{judgement_in}
use Rattle.judging.specs.Steps as judging
use Rattle.judging.proofs.Numbers.{no_fault, some_fault}
use Rattle.judging.proofs.Judgements.{judged_number, judged_good}
use Rattle.resolution_rules.proofs.Calls.{number_there}
use Rattle.delivered_unit.proofs.Answered.{find_refused, find_past, find_good}
use Rattle.delivered_unit.proofs.finding.find_delivery.Goals as goal
use Rattle.delivered_unit.proofs.finding.find_delivery.Goals.{In_ok-a}

abbrev R : In_ok-a → Recording
R c = recording_in c.args.b.now c.args.t.now

abbrev N : In_ok-a → ℕ
N c = c.args.n.0

-- the number is good, and so is the sample
answered : (c : In_ok-a) → let a = c.args in judgement_in a.b.now a.t.now a.n.0 ≡ ok c.in_ok-a.a
answered c = sym c.judge.ensures ∙ ap judging.answer_of c.in_ok-a.was

sound : (c : In_ok-a) → number_fault (sample_count (R c).layout) (N c) ≡ 0
sound c = judged_number _ _ _ c.requires _ (answered c)

good : (c : In_ok-a) → (judged (R c) (N c) ≡ ok tt) × (c.in_ok-a.a.count ≡ length (delivered (R c) (N c)))
good c = let w = judged_good _ _ _ c.requires c.in_ok-a.a (answered c) in (w.0, w.1)

-- the unit's number is judged by how many the sample delivers
checked : (c : In_ok-a) (i : ℕ) (r : Result (Unit {0}) Refusal) → answer_of r ≡ (number_fault c.in_ok-a.a.count i at_place 0) → answer_of r ≡ (number_fault (length (delivered (R c) (N c))) i at_place 0)
checked c i r e = rw (good c).1 at e

pub returns-in_err-check_number : goal.returns-in_err-check_number
returns-in_err-check_number c =
    let w = (goal.at.returns-in_err-check_number c).In_ok-a in
    let p = err_from_is_err_and c.from_residual-in_err-check_number.result c.from_residual-in_err-check_number.ensures.1 in
    let f = some_fault _ (checked w c.args.i _ c.check_number.ensures) c.in_err-check_number.was in
    rw (p.1, p.2, f.2) (sym (find_past _ _ _ (sound w) (good w).0 f.0 f.1))

pub find-requires : goal.find-requires
find-requires c = let a = c.args in
    let w = (goal.at.find-requires c).In_ok-a in
    (sample_from a.b.now a.t.now a.n.0 c.track_of-k.ensures c.sample_bytes-x.ensures, (good w).0, (number_there _ _ (no_fault _ (checked w a.i _ c.check_number.ensures) c.in_ok-check_number.was)).0)

pub returns-in_err-a : goal.returns-in_err-a
returns-in_err-a c =
    let p = err_from_is_err_and c.from_residual.result c.from_residual.ensures.1 in
    rw (p.1, p.2) (sym (find_refused _ _ _ c.requires (sym c.judge.ensures ∙ ap judging.answer_of c.in_err-a.was) _))

pub returns : goal.returns
returns c = let w = (goal.at.returns c).In_ok-a in
    ap ok c.find.ensures ∙ sym (find_good _ _ _ (sound w) (good w).0 (no_fault _ (checked w c.args.i _ c.check_number.ensures) c.in_ok-check_number.was))
