-- Each return is a case of the answer; nothing is written before both rooms are judged. Assumes nothing.
use Rattle.std.proofs.lemmas.Result.{err_from_is_err_and}
use native.Mathlib.Omega.{arith}
use mathlib.Core.Path.{◌≡◌, refl, sym, ◌∙◌}
use Prim.Native.Nat.{◌≤◌, ◌<◌}
use lib.ListN.{length}
use Rattle.words.proofs.Buffers.{refuse_all}
use Rattle.bundles.specs.Recordings.{sample_count}
use Rattle.tables.specs.Tables.{layout_in, recording_in}
use Rattle.tables.proofs.Layouts.{samples_most}
use Rattle.resolution_rules.specs.Ranges.{range_fault}
use Rattle.resolution_rules.proofs.Ranges.{range_there}
use Rattle.judging.proofs.Numbers.{no_fault, some_fault}
use Rattle.range.proofs.Answers.{bad_range, refused_both, written_both, no_lines}
use Rattle.range.proofs.range_accepted.Goals as goal
use Rattle.range.proofs.range_accepted.Goals.{In_ok-check_range}

-- the numbers are good
sound : (c : In_ok-check_range) → let a = c.args in range_fault (sample_count (layout_in a.t.now)) a.first.0 a.last.0 ≡ 0
sound c = no_fault _ (rw c.sample_count.ensures at c.check_range.ensures) c.in_ok-check_range.was

there : (c : In_ok-check_range) → let a = c.args in (0 < a.first.0) × (a.last.0 ≤ sample_count (layout_in a.t.now)) × (a.first.0 ≤ a.last.0)
there c = range_there _ _ _ (sound c)

pub returns-in_err-check_range : goal.returns-in_err-check_range
unfolding recording_in
returns-in_err-check_range c = let a = c.args in
    let p = err_from_is_err_and c.from_residual.result c.from_residual.ensures.1 in
    let f = some_fault _ (rw c.sample_count.ensures at c.check_range.ensures) c.in_err-check_range.was in
    rw (p.1, p.2, f.2) (refuse_all (bad_range (recording_in a.b.now a.t.now) a.first.0 a.last.0 (length a.out.now) (length a.lines.now) f.0 f.1))

pub overflow_sub-skipped : goal.overflow_sub-skipped
overflow_sub-skipped c = let w = there (goal.at.overflow_sub-skipped c).In_ok-check_range in omega arith

pub overflow_sub-size : goal.overflow_sub-size
overflow_sub-size c = let w = there (goal.at.overflow_sub-size c).In_ok-check_range in omega arith

pub overflow_mul-size : goal.overflow_mul-size
overflow_mul-size c = let a = c.args in let w = there (goal.at.overflow_mul-size c).In_ok-check_range in let m = samples_most a.t.now in omega arith

pub returns-then-lines-size : goal.returns-then-lines-size
returns-then-lines-size c = let a = c.args in rw c.at.ensures (refuse_all (no_lines a.b.now a.t.now a.first.0 a.last.0 c.requires.0 c.requires.1 (sound (goal.at.returns-then-lines-size c).In_ok-check_range) _ refl (length a.out.now) (length a.lines.now) c.if-lines-size.true))

pub returns-in_err-count : goal.returns-in_err-count
returns-in_err-count c =
    let p = err_from_is_err_and c.from_residual-in_err-count.result c.from_residual-in_err-count.ensures.1 in
    rw (p.1, p.2) (let a = c.args in let r = c.resolve_range.ensures in
    refused_both a.b.now a.t.now a.first.0 a.last.0 c.requires.0 c.requires.1 (sound (goal.at.returns-in_err-count c).In_ok-check_range) _ r.1 a.out.now _ a.lines.now (rw c.in_err-count.was at r.0))

pub returns : goal.returns
returns c = let a = c.args in let r = c.resolve_range.ensures in
    written_both a.b.now a.t.now a.first.0 a.last.0 c.requires.0 c.requires.1 (sound (goal.at.returns c).In_ok-check_range) _ r.1 a.out.now _ a.lines.now c.if-lines-size.false (rw c.in_ok-count.was at r.0) _ c.write_lines.ensures
