-- Each return is a case of the answer; nothing is written before all is known. Assumes nothing.
use Rattle.std.proofs.lemmas.Result.{err_from_is_err_and}
use native.Mathlib.Omega.{arith}
use mathlib.Core.Path.{◌≡◌, sym, ap, ◌∙◌}
use Prim.Native.Nat.{ℕ}
use Rattle.words.specs.Refusals.{ok}
use Rattle.words.specs.Buffers.{overwrite}
use Rattle.words.proofs.Buffers.{refuse, accept}
use Rattle.numbers.specs.Answers.{answer_of}
use Rattle.bundles.specs.Recordings.{Recording, sample_count}
use Rattle.tables.specs.Tables.{recording_in}
use Rattle.resolution_rules.specs.Resolving.{judged}
use Rattle.resolution_rules.specs.Calls.{number_fault}
use Rattle.delivery.proofs.Steps.{sample_from}
use Rattle.judging.specs.Steps as judging
use Rattle.judging.proofs.Judgements.{judged_number, judged_good}
use Rattle.resolution.specs.Streams.{stream_size}
use Rattle.resolution.proofs.Framing.{framed_codes}
use Rattle.resolution.proofs.Answered.{stream_refused, size_refused, size_short, size_written, size_good}
use Rattle.resolution.proofs.streaming.stream_sample.Goals as goal
use Rattle.resolution.proofs.streaming.stream_sample.Goals.{In_ok-judge, In_ok-size}

abbrev R : In_ok-judge → Recording
R c = recording_in c.args.b.now c.args.t.now

abbrev N : In_ok-judge → ℕ
N c = c.args.n.0

-- the number and the sample are good
number : (c : In_ok-judge) → number_fault (sample_count (R c).layout) (N c) ≡ 0
number c = judged_number _ _ _ c.requires _ (sym c.judge.ensures ∙ ap judging.answer_of c.in_ok-judge.was)

good : (c : In_ok-judge) → judged (R c) (N c) ≡ ok tt
good c = (judged_good _ _ _ c.requires _ (sym c.judge.ensures ∙ ap judging.answer_of c.in_ok-judge.was)).0

-- how long its byte stream is
size : (c : In_ok-size) → stream_size (recording_in c.args.b.now c.args.t.now) c.args.n.0 ≡ ok c.in_ok-size.size
size c = sym c.judge_units.ensures ∙ ap answer_of c.in_ok-size.was

pub judge_units-requires : goal.judge_units-requires
judge_units-requires c = let a = c.args in
    (sample_from a.b.now a.t.now a.n.0 c.track_of-k.ensures c.sample_bytes-x.ensures, good (goal.at.judge_units-requires c).In_ok-judge, c.requires)

pub returns-then-out-size : goal.returns-then-out-size
returns-then-out-size c = rw c.at.ensures (refuse (size_short _ _ _ (number (goal.at.returns-then-out-size c).In_ok-judge) (good (goal.at.returns-then-out-size c).In_ok-judge) (size (goal.at.returns-then-out-size c).In_ok-size) c.if-out-size.true))

pub write_units-requires : goal.write_units-requires
write_units-requires c = let a = c.args in
    (sample_from a.b.now a.t.now a.n.0 c.track_of-k.ensures c.sample_bytes-x.ensures, good (goal.at.write_units-requires c).In_ok-judge, rw (framed_codes, ← (size_good _ _ (size (goal.at.write_units-requires c).In_ok-size)).1) (omega (arith, c.if-out-size.false)))

pub returns-in_err-judge : goal.returns-in_err-judge
returns-in_err-judge c =
    let p = err_from_is_err_and c.from_residual.result c.from_residual.ensures.1 in
    rw (p.1, p.2) (refuse (stream_refused _ _ _ c.requires (sym c.judge.ensures ∙ ap judging.answer_of c.in_err-judge.was) _))

pub returns-in_err-size : goal.returns-in_err-size
returns-in_err-size c =
    let p = err_from_is_err_and c.from_residual-in_err-size.result c.from_residual-in_err-size.ensures.1 in
    rw (p.1, p.2) (refuse (size_refused _ _ _ (number (goal.at.returns-in_err-size c).In_ok-judge) (good (goal.at.returns-in_err-size c).In_ok-judge) (sym c.judge_units.ensures ∙ ap answer_of c.in_err-size.was)))

pub returns : goal.returns
returns c = rw (size_good _ _ (size (goal.at.returns c).In_ok-size)).1 (accept (size_written _ _ _ (number (goal.at.returns c).In_ok-judge) (good (goal.at.returns c).In_ok-judge) (size (goal.at.returns c).In_ok-size) c.if-out-size.false) (c.write_units.ensures ∙ ap (overwrite _) (framed_codes _ _)))
