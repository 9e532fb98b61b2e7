-- Each return is a case of the answer; nothing is written before all samples are judged and the room is. Assumes nothing.
use Rattle.std.proofs.lemmas.Result.{err_from_is_err_and}
use mathlib.Core.Path.{◌≡◌, sym, ap, ◌∙◌}
use lib.ListN.{length}
use Rattle.words.specs.Refusals.{ok}
use Rattle.words.specs.Buffers.{overwrite}
use Rattle.words.proofs.Buffers.{refuse, accept}
use Rattle.numbers.specs.Answers.{answer_of}
use Rattle.bundles.specs.Recordings.{Recording}
use Rattle.resolution_rules.specs.Ranges.{between, joined}
use Rattle.verdicts.specs.Kept.{range_size_in}
use Rattle.resolution.proofs.Ranges.{range_refused, range_short, range_joined, range_size, range_same, range_ready}
use Rattle.resolution.proofs.resolve_range.Goals as goal
use Rattle.resolution.proofs.resolve_range.Goals.{In_ok-size}

-- how long the joined output is
sized : (c : In_ok-size) → let a = c.args in range_size_in a.b.now a.t.now a.first.0 a.last.0 ≡ ok c.in_ok-size.size
sized c = sym c.judge_range.ensures.0 ∙ ap answer_of c.in_ok-size.was

pub returns-then-out-size : goal.returns-then-out-size
returns-then-out-size c = let a = c.args in
    (rw c.at.ensures (refuse (range_short a.b.now a.t.now a.first.0 a.last.0 (length a.out.now) (sized (goal.at.returns-then-out-size c).In_ok-size) c.if-out-size.true)), c.judge_range.ensures.1)

pub write_samples-requires : goal.write_samples-requires
write_samples-requires c = let a = c.args in range_ready a.b.now a.t.now a.first.0 a.last.0 (length a.out.now) (sized (goal.at.write_samples-requires c).In_ok-size) _ c.judge_range.ensures.1 c.if-out-size.false

pub returns-in_err-size : goal.returns-in_err-size
returns-in_err-size c =
    let p = err_from_is_err_and c.from_residual.result c.from_residual.ensures.1 in
    rw (p.1, p.2) (let a = c.args in
    (refuse (range_refused a.b.now a.t.now a.first.0 a.last.0 (length a.out.now) (sym c.judge_range.ensures.0 ∙ ap answer_of c.in_err-size.was)), c.judge_range.ensures.1))

pub returns : goal.returns
returns c = let a = c.args in
    let e = sized (goal.at.returns c).In_ok-size in
    let j = c.judge_range.ensures.1 in
    (rw (range_size a.b.now a.t.now a.first.0 a.last.0 (length a.out.now) e) (accept (range_joined a.b.now a.t.now a.first.0 a.last.0 (length a.out.now) e c.if-out-size.false) (c.write_samples.ensures ∙ ap (λ (r : Recording). overwrite a.out.now (joined r (between a.first.0 a.last.0))) (range_same a.b.now a.t.now a.first.0 a.last.0 (length a.out.now) e _ j))), j)
