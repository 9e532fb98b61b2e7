-- The loop's invariant: what is left of the walk over the included units gives their verdict. Assumes nothing.
use Rattle.numbers.proofs.Faults.{err_some, err_none}
use native.Mathlib.Omega.{arith}
use mathlib.Core.Path.{◌≡◌, sym, ◌∙◌}
use Prim.Native.Nat.{◌+◌, ◌≤◌}
use lib.ListN.{length}
use Rattle.words.proofs.Lists.{has_from}
use Rattle.words.proofs.Refusals.{at_none, at_refused}
use Rattle.units.specs.Units.{Sample, sample, next}
use Rattle.units.specs.Aggregators.{included_start}
use Rattle.units.specs.Rules.{Whole}
use Rattle.units.proofs.Units.{whole_end, whole_aggregator, next_after, included_rules}
use Rattle.units.proofs.Walks.{walk_none, walk_here, walk_on}
use Rattle.samples.proofs.Walks.{next_is, top_whole}
use Rattle.salvage.proofs.fates.has_fault_inside.Goals as goal
use Rattle.salvage.proofs.fates.has_fault_inside.Goals.{After-number, Else-is_err, Start}

abbrev X : Start → Sample
X c = sample c.args.k c.args.y.now

-- the aggregator is whole, and ends where the next unit starts
unit : (c : Start) → Whole (X c) (length c.args.y.now) c.args.at
unit c = top_whole (X c) c.requires.0.0 _ (has_from _ _ c.requires.0.1)

fits : (c : Start) → (included_start (X c) c.args.at ≤ next (X c) c.args.at) × (next (X c) c.args.at ≤ length c.args.y.now)
fits c = (whole_aggregator _ _ _ (unit c) c.requires.1, (whole_end _ _ _ (unit c)).1)

abbrev X_After_number : After-number → Sample
X_After_number c = sample c.args.k c.args.y.now

ends : (c : After-number) → c.args.at + c.bytes-n.result + c.number.result ≡ next (X_After_number c) c.args.at
ends c = let a = c.args in next_is a.k a.y.now _ _ _ c.bytes-n.ensures.0 c.number.ensures

abbrev X_Else1 : Else-is_err → Sample
X_Else1 c = sample c.args.k c.args.y.now

-- an included unit without a fault is whole, and ends where the next one starts
here : (c : Else-is_err) → Whole (X_Else1 c) (c.args.at + c.bytes-n.result + c.number.result) c.loop-q.q
here c = (included_rules _ _ _ (sym c.judge_included-u.ensures.0 ∙ err_none _ (sym c.is_err.ensures.value ∙ c.if-is_err.false))).unit

goes : (c : Else-is_err) → c.loop-q.q + c.bytes-n.result + c.judge_included-u.result.size ≡ next (X_Else1 c) c.loop-q.q
unfolding Rattle.units.specs.Units.size
goes c = let a = c.args in next_is a.k a.y.now _ _ _ c.bytes-n.ensures.0 c.judge_included-u.ensures.1

pub overflow_add-end : goal.overflow_add-end
overflow_add-end c = let u = unit (goal.at.overflow_add-end c).Start in omega arith

pub overflow_add-end-2 : goal.overflow_add-end-2
overflow_add-end-2 c = let f = fits (goal.at.overflow_add-end-2 c).Start in let e = ends (goal.at.overflow_add-end-2 c).After-number in omega arith

pub overflow_add-q : goal.overflow_add-q
overflow_add-q c = let f = fits (goal.at.overflow_add-q c).Start in omega arith

pub overflow_add-q-2 : goal.overflow_add-q-2
overflow_add-q-2 c = let f = fits (goal.at.overflow_add-q-2 c).Start in omega arith

pub overflow_add-q-3 : goal.overflow_add-q-3
overflow_add-q-3 c = let f = fits (goal.at.overflow_add-q-3 c).Start in omega arith

pub loop-q-init : goal.loop-q-init
loop-q-init c = rw c.bytes-n.ensures.0

pub returns-then-is_err : goal.returns-then-is_err
returns-then-is_err c = rw (← ends (goal.at.returns-then-is_err c).After-number, sym c.loop-q.invariant ∙ walk_here _ _ _ _ c.loop-q-test.true (at_refused _ c.judge_included-u.ensures.0 (err_some _ (sym c.is_err.ensures.value ∙ c.if-is_err.true))))

pub overflow_add-q-in-loop-q : goal.overflow_add-q-in-loop-q
overflow_add-q-in-loop-q c = let h = here (goal.at.overflow_add-q-in-loop-q c).Else-is_err in let f = fits (goal.at.overflow_add-q-in-loop-q c).Start in let e = ends (goal.at.overflow_add-q-in-loop-q c).After-number in omega arith

pub overflow_add-q-in-loop-q-2 : goal.overflow_add-q-in-loop-q-2
overflow_add-q-in-loop-q-2 c = let h = whole_end _ _ _ (here (goal.at.overflow_add-q-in-loop-q-2 c).Else-is_err) in let f = fits (goal.at.overflow_add-q-in-loop-q-2 c).Start in let e = ends (goal.at.overflow_add-q-in-loop-q-2 c).After-number in let g = goes (goal.at.overflow_add-q-in-loop-q-2 c).Else-is_err in omega arith

pub loop-q-smaller : goal.loop-q-smaller
loop-q-smaller c = let h = whole_end _ _ _ (here (goal.at.loop-q-smaller c).Else-is_err) in let g = goes (goal.at.loop-q-smaller c).Else-is_err in let n = next_after (X (goal.at.loop-q-smaller c).Start) c.loop-q.q in omega arith

pub loop-q-preserved : goal.loop-q-preserved
loop-q-preserved c = rw (goes (goal.at.loop-q-preserved c).Else-is_err) (sym (walk_on _ _ _ _ c.loop-q-test.true (at_none _ (sym c.judge_included-u.ensures.0 ∙ err_none _ (sym c.is_err.ensures.value ∙ c.if-is_err.false)))) ∙ c.loop-q.invariant)

pub returns : goal.returns
returns c = rw (← ends (goal.at.returns c).After-number, sym c.loop-q.invariant ∙ walk_none _ _ _ _ c.loop-q-test.false)
