-- The loop's invariant: the walk over what the aggregator covers has come to q, and met no aggregator and no unit that is dropped. Assumes nothing.
use Rattle.numbers.proofs.Faults.{err_some, err_none}
use native.Mathlib.Omega.{arith}
use mathlib.Core.Path.{◌≡◌, sym, ◌∙◌}
use mathlib.Core.Bool.{false}
use Prim.Native.Nat.{◌+◌}
use lib.ListN.{length}
use borrow.Author.Tests.{eq-eqb, ne_eqb}
use Rattle.words.proofs.Lists.{has_from}
use Rattle.units.specs.Units.{Sample, sample, next, is_aggregator}
use Rattle.units.specs.Aggregators.{additional_bytes}
use Rattle.units.specs.Rules.{Whole}
use Rattle.units.proofs.Units.{whole_end, next_after}
use Rattle.units.proofs.Covers.{Aggregator, aggregator, covering_whole}
use Rattle.samples.proofs.Walks.{next_is, top_whole}
use Rattle.salvage.proofs.UnitFates.{Losing, losing_start, losing_next, losing_found, losing_fault, losing_end, loses_past}
use Rattle.salvage.proofs.fates.loses_cover.Goals as goal
use Rattle.salvage.proofs.fates.loses_cover.Goals.{After-number, After-number-in-loop-q, After-number-more, Else-type_at-eq-AGGREGATOR, In-loop-q, Start}

abbrev X : Start → Sample
X c = sample c.args.k c.args.y.now

-- the aggregator, where it ends, and what it covers
whole-one : (c : Start) → Aggregator (X c) c.args.at
whole-one c = aggregator (X c) c.args.at (top_whole (X c) c.requires.0.0) (has_from _ _ c.requires.0.1) c.requires.1

abbrev X_After_number : After-number → Sample
X_After_number c = sample c.args.k c.args.y.now

ends : (c : After-number) → c.args.at + c.bytes-n.result + c.number.result ≡ next (X_After_number c) c.args.at
ends c = let a = c.args in next_is a.k a.y.now _ _ _ c.bytes-n.ensures.0 c.number.ensures

abbrev X_After_number2 : After-number-more → Sample
X_After_number2 c = sample c.args.k c.args.y.now

covers : (c : After-number-more) → c.number-more.result ≡ additional_bytes (X_After_number2 c) c.args.at
covers c = rw c.bytes-n.ensures.0 at c.number-more.ensures

abbrev X_In_loop : In-loop-q → Sample
X_In_loop c = sample c.args.k c.args.y.now

walks : (c : In-loop-q) → Losing (X_In_loop c) c.args.at c.requires.1 (c.args.at + c.bytes-n.result + c.number.result) (c.args.at + c.bytes-n.result + c.number.result + c.number-more.result) c.loop-q.q
walks c = c.loop-q.invariant c.requires.1

here : (c : In-loop-q) → Whole (X_In_loop c) (length c.args.y.now) c.loop-q.q
here c = covering_whole _ _ _ _ _ (walks c).covering c.loop-q-test.true

abbrev X_Else2 : Else-type_at-eq-AGGREGATOR → Sample
X_Else2 c = sample c.args.k c.args.y.now

other : (c : Else-type_at-eq-AGGREGATOR) → is_aggregator (X_Else2 c) c.loop-q.q ≡ false
other c = ne_eqb _ _ (λ e. c.if-type_at-eq-AGGREGATOR.false (c.type_at.ensures ∙ e))

abbrev X_After_number3 : After-number-in-loop-q → Sample
X_After_number3 c = sample c.args.k c.args.y.now

goes : (c : After-number-in-loop-q) → c.loop-q.q + c.bytes-n.result + c.number-in-loop-q.result ≡ next (X_After_number3 c) c.loop-q.q
goes c = let a = c.args in next_is a.k a.y.now _ _ _ c.bytes-n.ensures.0 c.number-in-loop-q.ensures

pub overflow_add-end : goal.overflow_add-end
overflow_add-end c = let g = whole-one (goal.at.overflow_add-end c).Start in omega arith

pub overflow_add-end-2 : goal.overflow_add-end-2
overflow_add-end-2 c = let g = whole-one (goal.at.overflow_add-end-2 c).Start in let e = ends (goal.at.overflow_add-end-2 c).After-number in omega arith

pub overflow_add-at : goal.overflow_add-at
overflow_add-at c = let g = whole-one (goal.at.overflow_add-at c).Start in omega arith

pub overflow_add-at-2 : goal.overflow_add-at-2
overflow_add-at-2 c = let g = whole-one (goal.at.overflow_add-at-2 c).Start in omega arith

pub overflow_sub-y : goal.overflow_sub-y
overflow_sub-y c = let g = whole-one (goal.at.overflow_sub-y c).Start in let e = ends (goal.at.overflow_sub-y c).After-number in omega arith

pub returns-then-y-end : goal.returns-then-y-end
returns-then-y-end c = let g = whole-one (goal.at.returns-then-y-end c).Start in let e = ends (goal.at.returns-then-y-end c).After-number in let m = covers (goal.at.returns-then-y-end c).After-number-more in sym (loses_past (X (goal.at.returns-then-y-end c).Start) c.args.at c.requires.1 (omega arith))

pub overflow_add-stop : goal.overflow_add-stop
overflow_add-stop c = let g = whole-one (goal.at.overflow_add-stop c).Start in let e = ends (goal.at.overflow_add-stop c).After-number in omega arith

pub loop-q-init : goal.loop-q-init
loop-q-init c = let g = whole-one (goal.at.loop-q-init c).Start in let e = ends (goal.at.loop-q-init c).After-number in let m = covers (goal.at.loop-q-init c).After-number-more in
    λ t. rw e (losing_start (X (goal.at.loop-q-init c).Start) c.args.at t _ (top_whole _ c.requires.0.0) g (omega arith) (omega arith))

pub returns-then-type_at-eq-AGGREGATOR : goal.returns-then-type_at-eq-AGGREGATOR
returns-then-type_at-eq-AGGREGATOR c = sym (losing_found _ _ _ _ _ _ (walks (goal.at.returns-then-type_at-eq-AGGREGATOR c).In-loop-q) c.loop-q-test.true (eq-eqb _ _ (sym c.type_at.ensures ∙ c.if-type_at-eq-AGGREGATOR.true)))

pub returns-then-is_err : goal.returns-then-is_err
returns-then-is_err c = sym (losing_fault _ _ _ _ _ _ (walks (goal.at.returns-then-is_err c).In-loop-q) c.loop-q-test.true (other (goal.at.returns-then-is_err c).Else-type_at-eq-AGGREGATOR) (λ e. err_some _ (sym c.is_err.ensures.value ∙ c.if-is_err.true) (c.extractor_fault.ensures ∙ e)))

pub overflow_add-q : goal.overflow_add-q
overflow_add-q c = let w = whole_end _ _ _ (here (goal.at.overflow_add-q c).In-loop-q) in let h = here (goal.at.overflow_add-q c).In-loop-q in omega arith

pub overflow_add-q-in-loop-q : goal.overflow_add-q-in-loop-q
overflow_add-q-in-loop-q c = let w = whole_end _ _ _ (here (goal.at.overflow_add-q-in-loop-q c).In-loop-q) in let e = goes (goal.at.overflow_add-q-in-loop-q c).After-number-in-loop-q in omega arith

pub loop-q-smaller : goal.loop-q-smaller
loop-q-smaller c = let w = whole_end _ _ _ (here (goal.at.loop-q-smaller c).In-loop-q) in let e = goes (goal.at.loop-q-smaller c).After-number-in-loop-q in let n = next_after (X (goal.at.loop-q-smaller c).Start) c.loop-q.q in omega arith

pub loop-q-preserved : goal.loop-q-preserved
loop-q-preserved c = λ t. rw (goes (goal.at.loop-q-preserved c).After-number-in-loop-q) (losing_next _ _ t _ _ _ (c.loop-q.invariant t) c.loop-q-test.true (other (goal.at.loop-q-preserved c).Else-type_at-eq-AGGREGATOR) (sym c.extractor_fault.ensures ∙ err_none _ (sym c.is_err.ensures.value ∙ c.if-is_err.false)))

pub returns : goal.returns
returns c = losing_end _ _ _ _ _ _ (c.loop-q.invariant c.requires.1) c.loop-q-test.false
