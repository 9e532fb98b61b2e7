-- What is left of each walk gives its whole verdict. Assumes nothing.
use native.Mathlib.Omega.{arith}
use mathlib.Core.Path.{◌≡◌, refl, sym, ◌∙◌}
use mathlib.Core.Bool.{true}
use Prim.Native.Nat.{◌+◌, ◌≤◌}
use lib.ListN.{length}
use borrow.Author.Tests.{eq-eqb, ne_eqb}
use Rattle.words.specs.Refusals.{◌at_place◌}
use Rattle.numbers.specs.Faults.{fault_in}
use Rattle.units.specs.Units.{sample, next, is_aggregator}
use Rattle.units.specs.Rules.{Whole}
use Rattle.samples.specs.Check.{content_verdict}
use Rattle.samples.proofs.Faults.{verdict_ok, verdict_err}
use Rattle.samples.proofs.Walks.{next_is, top_has, content_other, IncludedWalk, content_start, content_whole, content_next, content_stop, content_done, included_start_at, included_inside, included_next, included_stop, included_done}
use Rattle.samples.proofs.check_contents.Goals as goal
use Rattle.samples.proofs.check_contents.Goals.{then-type_at-eq-AGGREGATOR+else-loop-q-test, else-type_at-eq-AGGREGATOR, After-number, Then-type_at-eq-AGGREGATOR, In_default, Joined-type_at-eq-AGGREGATOR}

-- the unit is whole, and ends where the next one starts
unit : (c : After-number) → let a = c.args in let x = sample a.k a.s.now in Whole x (length a.s.now) c.walk.at × (c.walk.at + c.bytes-n.result + c.number.result ≡ next x c.walk.at)
unit c = let a = c.args in (content_whole _ _ c.walk.invariant c.if-s-at.false c.requires, next_is a.k a.s.now _ _ _ c.bytes-n.ensures.0 c.number.ensures)

-- it is an aggregator
aggregator : (c : Then-type_at-eq-AGGREGATOR) → let a = c.args in is_aggregator (sample a.k a.s.now) c.walk.at ≡ true
aggregator c = eq-eqb _ _ (sym c.type_at.ensures ∙ c.if-type_at-eq-AGGREGATOR.true)

-- an included unit has no fault, and ends where the next one starts
included : (c : In_default) → let a = c.args in let x = sample a.k a.s.now in let e = c.walk.at + c.bytes-n.result + c.number.result in
    (c.loop-q.q + c.bytes-n.result + c.judge_included-u.result.size ≡ next x c.loop-q.q) × (next x c.loop-q.q ≤ e) × IncludedWalk x c.walk.at e (next x c.loop-q.q)
included c = let v = verdict_ok c.judge_included-u.ensures.0 c.loop-q.q c.in_default.is in
    (rw (c.bytes-n.ensures.0, c.judge_included-u.ensures.1), included_inside _ _ _ v, included_next _ _ _ _ c.loop-q.invariant c.loop-q-test.true v)

-- what stands in the unit, where both arms meet
judged : (c : Joined-type_at-eq-AGGREGATOR) → let a = c.args in content_verdict (sample a.k a.s.now) c.walk.at ≡ fault_in c.if-type_at-eq-AGGREGATOR.verdict at_place c.walk.at
judged c = elim c.if-type_at-eq-AGGREGATOR.branch [
  | then-type_at-eq-AGGREGATOR+else-loop-q-test w ↦
      rw (w.verdict-is, w.cover_fault-verdict.ensures)
      (included_done _ _ _ _ w.loop-q.invariant w.loop-q-test.false (eq-eqb _ _ (sym c.type_at.ensures ∙ w.if-type_at-eq-AGGREGATOR.true)))
  | else-type_at-eq-AGGREGATOR w ↦
      rw (w.verdict-is, w.extractor_fault-verdict.ensures)
      (content_other _ _ (ne_eqb _ _ (λ e. w.if-type_at-eq-AGGREGATOR.false (c.type_at.ensures ∙ e))))
]

pub walk-init : goal.walk-init
walk-init c = content_start _

pub overflow_add-end-in-walk : goal.overflow_add-end-in-walk
overflow_add-end-in-walk c = let u = unit (goal.at.overflow_add-end-in-walk c).After-number in let i = u.0.inside in omega arith

pub loop-q-init : goal.loop-q-init
loop-q-init c = let u = unit (goal.at.loop-q-init c).After-number in rw c.bytes-n.ensures.0 (included_start_at _ _ _ (rw c.bytes-n.ensures.0 at u.1))

pub overflow_add-q-in-loop-q : goal.overflow_add-q-in-loop-q
overflow_add-q-in-loop-q c = let u = unit (goal.at.overflow_add-q-in-loop-q c).After-number in let i = u.0.inside in let g = included (goal.at.overflow_add-q-in-loop-q c).In_default in omega arith

pub overflow_add-q-in-loop-q-2 : goal.overflow_add-q-in-loop-q-2
overflow_add-q-in-loop-q-2 c = let u = unit (goal.at.overflow_add-q-in-loop-q-2 c).After-number in let i = u.0.inside in let g = included (goal.at.overflow_add-q-in-loop-q-2 c).In_default in omega arith

pub loop-q-preserved : goal.loop-q-preserved
loop-q-preserved c = let g = included (goal.at.loop-q-preserved c).In_default in rw g.0 g.2

pub cover_fault-verdict-requires : goal.cover_fault-verdict-requires
cover_fault-verdict-requires c = (c.requires, top_has _ _ c.walk.invariant.there c.if-s-at.false, aggregator (goal.at.cover_fault-verdict-requires c).Then-type_at-eq-AGGREGATOR)

pub walk-preserved : goal.walk-preserved
walk-preserved c = rw (unit (goal.at.walk-preserved c).After-number).1
    (content_next _ _ c.walk.invariant c.if-s-at.false c.requires (judged (goal.at.walk-preserved c).Joined-type_at-eq-AGGREGATOR ∙ verdict_ok refl _ c.in_default-verdict.is))

pub returns-then-s-at : goal.returns-then-s-at
returns-then-s-at c = content_done _ _ c.walk.invariant c.if-s-at.true

pub returns-in-Err : goal.returns-in-Err
returns-in-Err c = rw c.at.ensures
    (content_stop _ _ c.walk.invariant c.if-s-at.false
    (included_stop _ _ _ _ c.loop-q.invariant c.loop-q-test.true (aggregator (goal.at.returns-in-Err c).Then-type_at-eq-AGGREGATOR) (verdict_err c.judge_included-u.ensures.0 _ c.in-Err.is)))

pub returns-in-Err-verdict : goal.returns-in-Err-verdict
returns-in-Err-verdict c = rw c.at-in-Err-verdict.ensures
    (content_stop _ _ c.walk.invariant c.if-s-at.false (judged (goal.at.returns-in-Err-verdict c).Joined-type_at-eq-AGGREGATOR ∙ verdict_err refl _ c.in-Err-verdict.is))
