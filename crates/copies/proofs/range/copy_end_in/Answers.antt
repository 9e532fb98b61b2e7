-- By data_length, and by what stands at data_offset. An aggregator's length field lies in the sample. Assumes nothing.
use native.Mathlib.Omega.{arith}
use mathlib.Core.Path.{◌≡◌, sym, ap, ◌∙◌}
use mathlib.Core.Bool.{true}
use Prim.Native.Nat.{◌+◌, ◌<◌}
use borrow.Author.Tests.{eq-eqb, ne_eqb}
use Rattle.units.specs.Units.{sample, L, end, size, is_aggregator}
use Rattle.units.specs.Steps.{place}
use Rattle.unit_steps.proofs.Items.{aggregator_inside}
use Rattle.copies.specs.Range.{capped}
use Rattle.copies.proofs.Ranges.{capped_in, in_length, in_unit, in_aggregator}
use Rattle.copies.proofs.range.copy_end_in.Goals as goal
use Rattle.copies.proofs.range.copy_end_in.Goals.{After-type_at, Else-type_at-ne-AGGREGATOR}

-- where the unit at data_offset ends, capped
ends : (c : After-type_at) → let a = c.args in let x = sample a.k a.z.now in c.capped_sum-next.result ≡ capped (end x) (capped (end x) (a.offset.0 + L x) + size x a.offset.0)
unfolding size
ends c = c.capped_sum-next.ensures ∙ rw (c.capped_sum-start.ensures, c.number.ensures, c.bytes.ensures.0)

-- it is an aggregator, so that its length field lies in the sample
aggregator : (c : Else-type_at-ne-AGGREGATOR) → let a = c.args in is_aggregator (sample a.k a.z.now) a.offset.0 ≡ true
aggregator c = eq-eqb _ _ (sym c.type_at.ensures ∙ c.if-type_at-ne-AGGREGATOR.false)

start : (c : Else-type_at-ne-AGGREGATOR) → let a = c.args in let x = sample a.k a.z.now in (c.capped_sum-start.result ≡ a.offset.0 + L x) × (a.offset.0 + L x < end x)
start c =
    let a = c.args in
    let x = sample a.k a.z.now in
    let i = aggregator_inside x a.offset.0 (aggregator c) in
    (c.capped_sum-start.ensures ∙ rw c.bytes.ensures.0 (capped_in (end x) (a.offset.0 + L x) (omega arith)), i)

pub returns-then-length-ne0 : goal.returns-then-length-ne0
returns-then-length-ne0 c = ap place (c.capped_sum.ensures ∙ sym (in_length _ _ _ c.if-length-ne0.true))

pub returns-then-type_at-ne-AGGREGATOR : goal.returns-then-type_at-ne-AGGREGATOR
returns-then-type_at-ne-AGGREGATOR c = ap place (sym (in_unit _ _ _ c.if-length-ne0.false (ends (goal.at.returns-then-type_at-ne-AGGREGATOR c).After-type_at) (ne_eqb _ _ (λ e. c.if-type_at-ne-AGGREGATOR.true (c.type_at.ensures ∙ e)))))

pub overflow_add-start : goal.overflow_add-start
overflow_add-start c = let w = start (goal.at.overflow_add-start c).Else-type_at-ne-AGGREGATOR in omega arith

pub returns : goal.returns
returns c = ap place (c.capped_sum-2.ensures ∙ sym (in_aggregator _ _ _ c.if-length-ne0.false (ends (goal.at.returns c).After-type_at) (aggregator (goal.at.returns c).Else-type_at-ne-AGGREGATOR) (c.number-covered.ensures ∙ rw (start (goal.at.returns c).Else-type_at-ne-AGGREGATOR).0)))
