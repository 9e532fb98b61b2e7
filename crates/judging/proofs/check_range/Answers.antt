-- Each return is a test of 30. Assumes nothing.
use mathlib.Core.Logic.{inl, inr}
use Rattle.judging.proofs.Numbers.{range_out, range_in}
use Rattle.judging.proofs.check_range.Goals as goal
use Rattle.judging.proofs.check_range.Goals.{then-first-eq0-via-then-first-eq0, then-first-eq0-via-else-first-eq0+then-count-last, then-first-eq0-via-else-first-eq0+else-count-last+then-last-first}

pub returns-then-first-eq0 : goal.returns-then-first-eq0
returns-then-first-eq0 c = rw c.at.ensures (range_out _ _ _ (elim c.then-first-eq0.branch [
  | then-first-eq0-via-then-first-eq0 w ↦ inl w.if-first-eq0.true
  | then-first-eq0-via-else-first-eq0+then-count-last w ↦ inr (w.if-first-eq0.false, inl w.if-count-last.true)
  | then-first-eq0-via-else-first-eq0+else-count-last+then-last-first w ↦ inr (w.if-first-eq0.false, inr (w.if-count-last.false, w.if-last-first.true))
]))

pub returns : goal.returns
returns c = range_in _ _ _ c.if-first-eq0.false c.if-count-last.false c.if-last-first.false
