-- Each return is a case of the answer; nothing is written before all is known. Assumes nothing.
use Rattle.std.proofs.lemmas.Result.{err_from_is_err_and}
use mathlib.Core.Path.{◌≡◌, sym, ap, ◌∙◌}
use Prim.Native.Nat.{ℕ, ◌+◌, ◌*◌, ◌≤◌}
use native.Mathlib.Omega.{arith}
use mathlib.Core.List.{List}
use lib.ListN.{length}
use Rattle.words.specs.Refusals.{ok}
use Rattle.words.specs.Buffers.{overwrite}
use Rattle.words.proofs.Buffers.{refuse, accept}
use Rattle.tables.specs.Tables.{recording_in}
use Rattle.bundles.specs.Recordings.{Recording, sample_count}
use Rattle.resolution_rules.specs.Resolving.{delivered, judged}
use Rattle.resolution_rules.specs.Calls.{output, number_fault}
use Rattle.delivery.proofs.Steps.{sample_from}
use Rattle.judging.specs.Steps.{judgement_in, answer_of}
use Rattle.judging.specs.declared.Amount.{Amount}
use Rattle.judging.proofs.Judgements.{judged_number, judged_good, judged_size_lem, judged_most}
use Rattle.resolution.proofs.Framing.{framed_lengths}
use Rattle.resolution.proofs.Answered.{sample_refused, room_refused, sample_resolved}
use Rattle.resolution.proofs.writing.resolve_sample.Goals as goal
use Rattle.resolution.proofs.writing.resolve_sample.Goals.{In_ok-a}

abbrev R : In_ok-a → Recording
R c = recording_in c.args.b.now c.args.t.now

abbrev N : In_ok-a → ℕ
N c = c.args.n.0

-- the number is good, the sample is good, and its amount says how long the output is
abbrev A : In_ok-a → Amount
A c = c.in_ok-a.a

abbrev Output : In_ok-a → List ℕ
Output c = output (R c) (delivered (R c) (N c))

answered : (c : In_ok-a) → let a = c.args in judgement_in a.b.now a.t.now a.n.0 ≡ ok (A c)
answered c = sym c.judge.ensures ∙ ap answer_of c.in_ok-a.was

sound : (c : In_ok-a) → number_fault (sample_count (R c).layout) (N c) ≡ 0
sound c = judged_number _ _ _ c.requires _ (answered c)

good : (c : In_ok-a) → judged (R c) (N c) ≡ ok tt
good c = (judged_good _ _ _ c.requires (A c) (answered c)).0

size : (c : In_ok-a) → (A c).own_bytes + (A c).copied_bytes + 4 * (A c).count ≡ length (Output c)
size c = judged_size_lem _ _ _ c.requires (A c) (answered c)

most : (c : In_ok-a) → (A c).own_bytes + (A c).copied_bytes + 4 * (A c).count ≤ 1125899906842624
most c = judged_most _ _ _ c.requires (A c) (answered c)

pub overflow_add-size : goal.overflow_add-size
overflow_add-size c = let m = most (goal.at.overflow_add-size c).In_ok-a in omega arith

pub overflow_mul-size : goal.overflow_mul-size
overflow_mul-size c = let m = most (goal.at.overflow_mul-size c).In_ok-a in omega arith

pub overflow_add-size-2 : goal.overflow_add-size-2
overflow_add-size-2 c = let m = most (goal.at.overflow_add-size-2 c).In_ok-a in omega arith

pub returns-then-out-size : goal.returns-then-out-size
returns-then-out-size c = rw c.at.ensures (refuse (room_refused _ _ _ (sound (goal.at.returns-then-out-size c).In_ok-a) (good (goal.at.returns-then-out-size c).In_ok-a) (rw (size (goal.at.returns-then-out-size c).In_ok-a) at c.if-out-size.true)))

pub write_units-requires : goal.write_units-requires
write_units-requires c = let a = c.args in
    (sample_from a.b.now a.t.now a.n.0 c.track_of-k.ensures c.sample_bytes-x.ensures, good (goal.at.write_units-requires c).In_ok-a, rw framed_lengths (let h = rw (size (goal.at.write_units-requires c).In_ok-a) at c.if-out-size.false in omega arith))

pub returns-in_err-a : goal.returns-in_err-a
returns-in_err-a c =
    let p = err_from_is_err_and c.from_residual.result c.from_residual.ensures.1 in
    rw (p.1, p.2) (refuse (sample_refused _ _ _ c.requires (sym c.judge.ensures ∙ ap answer_of c.in_err-a.was) _))

pub returns : goal.returns
returns c = rw (size (goal.at.returns c).In_ok-a) (accept (sample_resolved _ _ _ (sound (goal.at.returns c).In_ok-a) (good (goal.at.returns c).In_ok-a) (rw (size (goal.at.returns c).In_ok-a) at c.if-out-size.false)) (c.write_units.ensures ∙ ap (overwrite _) (framed_lengths _ _)))
