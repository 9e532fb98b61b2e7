-- Each return is a case of the answer; nothing is written before all is known. Assumes nothing.
use Rattle.std.proofs.lemmas.Result.{err_from_is_err_and}
use mathlib.Core.Path.{◌≡◌, sym, ap, ◌∙◌}
use Prim.Native.Nat.{ℕ, ◌*◌, ◌≤◌}
use native.Mathlib.Omega.{arith}
use mathlib.Core.List.{List}
use lib.ListN.{length}
use Rattle.words.specs.Refusals.{ok}
use Rattle.words.proofs.Buffers.{refuse, accept}
use Rattle.bundles.specs.Recordings.{sample_count}
use Rattle.tables.specs.Tables.{recording_in}
use Rattle.resolution_rules.specs.Resolving.{judged}
use Rattle.resolution_rules.specs.Calls.{number_fault}
use Rattle.delivery.proofs.Steps.{sample_from}
use Rattle.judging.specs.Steps.{judgement_in, answer_of}
use Rattle.judging.specs.declared.Amount.{Amount}
use Rattle.judging.proofs.Judgements.{judged_number, judged_good}
use Rattle.unit_parts.specs.Answers.{parts_in}
use Rattle.unit_parts.proofs.Answered.{sample_refused, room_refused, units_placed, parts_size, parts_fit}
use Rattle.unit_parts.proofs.writing.place_units.Goals as goal
use Rattle.unit_parts.proofs.writing.place_units.Goals.{In_ok-a}

-- the bundle, the table and the number
abbrev B : In_ok-a → List ℕ
B c = c.args.b.now

abbrev T : In_ok-a → List ℕ
T c = c.args.t.now

abbrev N : In_ok-a → ℕ
N c = c.args.n.0

-- the number is good, the sample is good, and its amount says how many numbers there are
abbrev A : In_ok-a → Amount
A c = c.in_ok-a.a

answered : (c : In_ok-a) → judgement_in (B c) (T c) (N c) ≡ ok (A c)
answered c = sym c.judge.ensures ∙ ap answer_of c.in_ok-a.was

sound : (c : In_ok-a) → number_fault (sample_count (recording_in (B c) (T c)).layout) (N c) ≡ 0
sound c = judged_number _ _ _ c.requires _ (answered c)

good : (c : In_ok-a) → judged (recording_in (B c) (T c)) (N c) ≡ ok tt
good c = (judged_good _ _ _ c.requires (A c) (answered c)).0

size : (c : In_ok-a) → 2 * (A c).count ≡ length (parts_in (B c) (T c) (N c))
size c = parts_size _ _ _ c.requires (A c) (answered c)

fits : (c : In_ok-a) → 2 * (A c).count ≤ length c.args.out.now → length (parts_in (B c) (T c) (N c)) ≤ length c.args.out.now
fits c l = let s = size c in omega arith

pub overflow_mul-size : goal.overflow_mul-size
overflow_mul-size c = let m = parts_fit _ _ _ c.requires (A (goal.at.overflow_mul-size c).In_ok-a) (answered (goal.at.overflow_mul-size c).In_ok-a) in omega arith

pub returns-then-out-size : goal.returns-then-out-size
returns-then-out-size c = rw c.at.ensures (refuse (room_refused _ _ _ _ (sound (goal.at.returns-then-out-size c).In_ok-a) (good (goal.at.returns-then-out-size c).In_ok-a) (let s = size (goal.at.returns-then-out-size c).In_ok-a in let l = c.if-out-size.true in omega arith)))

pub write_parts-requires : goal.write_parts-requires
write_parts-requires c = let a = c.args in
    (sample_from a.b.now a.t.now a.n.0 c.track_of-k.ensures c.sample_bytes-x.ensures, good (goal.at.write_parts-requires c).In_ok-a, c.requires, fits (goal.at.write_parts-requires c).In_ok-a c.if-out-size.false)

pub returns-in_err-a : goal.returns-in_err-a
returns-in_err-a c =
    let p = err_from_is_err_and c.from_residual.result c.from_residual.ensures.1 in
    rw (p.1, p.2) (refuse (sample_refused _ _ _ c.requires (sym c.judge.ensures ∙ ap answer_of c.in_err-a.was) _))

pub returns : goal.returns
returns c = rw (size (goal.at.returns c).In_ok-a) (accept (units_placed _ _ _ _ (sound (goal.at.returns c).In_ok-a) (good (goal.at.returns c).In_ok-a) (fits (goal.at.returns c).In_ok-a c.if-out-size.false)) c.write_parts.ensures)
