-- Each return is a case of the answer; the samples are marked, then judged. Assumes nothing.
use Rattle.std.proofs.lemmas.Result.{err_from_is_err_and}
use native.Mathlib.Omega.{arith}
use mathlib.Core.Path.{◌≡◌, sym, ap, ◌∙◌}
use Prim.Native.Nat.{◌≤◌, ◌<◌}
use mathlib.Core.Logic.{inl, inr}
use Rattle.words.specs.Refusals.{ok}
use Rattle.bundles.specs.Recordings.{sample_count}
use Rattle.tables.specs.Tables.{layout_in}
use Rattle.resolution_rules.specs.Ranges.{range_fault}
use Rattle.resolution_rules.proofs.Ranges.{range_there}
use Rattle.judging.proofs.Numbers.{no_fault, some_fault}
use Rattle.verdicts.proofs.Known.{zeros, survey_start}
use Rattle.verdicts.proofs.Ranges.{range_unfit, range_none, range_judged}
use Rattle.verdicts.proofs.judge_range.Goals as goal
use Rattle.verdicts.proofs.judge_range.Goals.{In_ok-check_range}

-- the numbers are good
sound : (c : In_ok-check_range) → let a = c.args in range_fault (sample_count (layout_in a.t.now)) a.first.0 a.last.0 ≡ 0
sound c = no_fault _ (rw c.sample_count.ensures at c.check_range.ensures) c.in_ok-check_range.was

there : (c : In_ok-check_range) → let a = c.args in (0 < a.first.0) × (a.last.0 ≤ sample_count (layout_in a.t.now)) × (a.first.0 ≤ a.last.0)
there c = range_there _ _ _ (sound c)

pub returns-then-b-gt-BUNDLE_MOST : goal.returns-then-b-gt-BUNDLE_MOST
returns-then-b-gt-BUNDLE_MOST c = let a = c.args in let w = range_unfit a.b.now a.t.now a.first.0 a.last.0 (inl c.if-b-gt-BUNDLE_MOST.true) in (rw c.at.ensures (sym w.0, sym w.1))

pub returns-then-t-lt-TABLE_SIZE : goal.returns-then-t-lt-TABLE_SIZE
returns-then-t-lt-TABLE_SIZE c = let a = c.args in let w = range_unfit a.b.now a.t.now a.first.0 a.last.0 (inr c.if-t-lt-TABLE_SIZE.true) in (rw c.at-then-t-lt-TABLE_SIZE.ensures (sym w.0, sym w.1))

pub returns-in_err-check_range : goal.returns-in_err-check_range
returns-in_err-check_range c = let a = c.args in
    let p = err_from_is_err_and c.from_residual.result c.from_residual.ensures.1 in
    let f = some_fault _ (rw c.sample_count.ensures at c.check_range.ensures) c.in_err-check_range.was in
    let w = range_none a.b.now a.t.now a.first.0 a.last.0 c.if-b-gt-BUNDLE_MOST.false c.if-t-lt-TABLE_SIZE.false f.0 f.1 in
    (rw (p.1, p.2, f.2) (sym w.0), sym w.1)

pub mark_range-requires : goal.mark_range-requires
mark_range-requires c = (c.if-b-gt-BUNDLE_MOST.false, omega arith, survey_start _ _ _ _ (zeros 4097), (there (goal.at.mark_range-requires c).In_ok-check_range).0)

pub keep_range-requires : goal.keep_range-requires
keep_range-requires c = let w = there (goal.at.keep_range-requires c).In_ok-check_range in (c.if-b-gt-BUNDLE_MOST.false, c.mark_range.ensures, w.0, omega arith, w.1)

pub returns : goal.returns
returns c = let a = c.args in
    let w = range_judged a.b.now a.t.now a.first.0 a.last.0 c.if-b-gt-BUNDLE_MOST.false c.if-t-lt-TABLE_SIZE.false (sound (goal.at.returns c).In_ok-check_range) in
    let k = c.keep_range.ensures in
    (ap ok k.0 ∙ sym w.0, k.1 ∙ sym w.1)
