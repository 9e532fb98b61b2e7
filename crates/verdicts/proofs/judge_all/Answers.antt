-- All are marked, then judged. Assumes nothing.
use native.Mathlib.Omega.{arith}
use mathlib.Core.Path.{sym, ◌∙◌}
use Rattle.verdicts.proofs.Known.{zeros, survey_start}
use Rattle.verdicts.proofs.Keeping.{all_long, all_short}
use Rattle.verdicts.proofs.judge_all.Goals as goal

pub returns-then-b-gt-BUNDLE_MOST : goal.returns-then-b-gt-BUNDLE_MOST
returns-then-b-gt-BUNDLE_MOST c = let a = c.args in sym (all_long a.b.now a.t.now c.if-b-gt-BUNDLE_MOST.true)

pub mark_all-requires : goal.mark_all-requires
mark_all-requires c = (c.if-b-gt-BUNDLE_MOST.false, omega arith, survey_start _ _ _ _ (zeros 4097))

pub keep_all-requires : goal.keep_all-requires
keep_all-requires c = (c.if-b-gt-BUNDLE_MOST.false, c.mark_all.ensures)

pub returns : goal.returns
returns c = let a = c.args in c.keep_all.ensures ∙ sym (all_short a.b.now a.t.now c.if-b-gt-BUNDLE_MOST.false)
