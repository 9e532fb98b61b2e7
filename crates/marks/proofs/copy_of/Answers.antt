-- 26, then 27, then 28 or the units counted. Assumes nothing.
use native.Mathlib.Omega.{arith}
use mathlib.Core.Path.{sym, ◌∙◌}
use Rattle.marks.proofs.Copying.{state_again, zero_again, offset_past, offset_wrong, length_past, length_wrong, length_good}
use Rattle.marks.proofs.copy_of.Goals as goal

pub returns-then-z-from : goal.returns-then-z-from
returns-then-z-from c = offset_past _ _ _ _ _ c.if-z-from.true

pub returns-then-a-from : goal.returns-then-a-from
returns-then-a-from c = offset_wrong _ _ _ _ _ _ c.state_at-a.ensures.0 c.if-a-from.true

pub copy_unit-requires : goal.copy_unit-requires
copy_unit-requires c = let p = c.if-a-from.false in (omega arith, c.state_at-a.ensures.1, state_again _ _ _ _ _ c.state_at-a.ensures.0 p)

pub returns-then-length-eq0 : goal.returns-then-length-eq0
returns-then-length-eq0 c = c.copy_unit.ensures ∙ zero_again _ _ _ _ _ _ c.if-a-from.false c.if-length-eq0.true

pub returns-then-z-from-2 : goal.returns-then-z-from-2
returns-then-z-from-2 c = length_past _ _ _ _ _ _ c.state_at-a.ensures.0 c.if-a-from.false c.if-z-from.false c.if-length-eq0.false c.if-z-from-2.true

pub returns-then-not-ends : goal.returns-then-not-ends
returns-then-not-ends c = length_wrong _ _ _ _ _ _ c.state_at-a.ensures.0 c.if-a-from.false c.if-z-from.false c.if-length-eq0.false _ c.state_at-e.ensures.0 (omega arith) (sym c.ends.ensures ∙ c.if-not-ends.true)

pub returns : goal.returns
returns c = c.between.ensures
    ∙ length_good _ _ _ _ _ _ c.state_at-a.ensures.0 c.if-a-from.false c.if-z-from.false c.if-length-eq0.false _ c.state_at-e.ensures.0 (omega arith) (sym c.ends.ensures ∙ c.if-not-ends.false)
