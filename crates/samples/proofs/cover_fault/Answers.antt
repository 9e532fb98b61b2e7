-- The loop's invariant: the walk over what the aggregator covers has come to q and met no aggregator. Assumes nothing.
use native.Mathlib.Omega.{arith}
use mathlib.Core.Path.{◌≡◌, sym, ◌∙◌}
use Prim.Native.Nat.{◌+◌, ◌≤◌}
use borrow.Author.Tests.{eq-eqb, ne_eqb}
use Rattle.words.proofs.Lists.{has_from}
use Rattle.units.specs.Units.{sample, end, next}
use Rattle.units.specs.Aggregators.{additional_bytes}
use Rattle.units.proofs.Covers.{Aggregator, aggregator, covering_whole, covering_start, covering_next, covering_found, covering_end, covering_past, cover_bad}
use Rattle.units.proofs.Walks.{border_past}
use Rattle.samples.proofs.Walks.{top_whole, next_is}
use Rattle.samples.proofs.cover_fault.Goals as goal
use Rattle.samples.proofs.cover_fault.Goals.{After-bytes-n, After-number, After-number-more, In-loop-q}

-- the aggregator, where it ends, and what it covers
itself : (c : After-bytes-n) → let a = c.args in Aggregator (sample a.k a.s.now) a.at
itself c = let a = c.args in let x = sample a.k a.s.now in aggregator x a.at (top_whole x c.requires.0) (has_from _ _ c.requires.1) c.requires.2

ends : (c : After-number) → let a = c.args in a.at + c.bytes-n.result + c.number.result ≡ next (sample a.k a.s.now) a.at
ends c = let a = c.args in next_is a.k a.s.now _ _ _ c.bytes-n.ensures.0 c.number.ensures

covers : (c : After-number-more) → let a = c.args in c.number-more.result ≡ additional_bytes (sample a.k a.s.now) a.at
covers c = rw c.bytes-n.ensures.0 at c.number-more.ensures

-- the unit at hand ends in the sample
here : (c : In-loop-q) → let a = c.args in let x = sample a.k a.s.now in next x c.loop-q.q ≤ end x
here c = (covering_whole _ _ _ _ _ c.loop-q.invariant c.loop-q-test.true).inside

pub overflow_add-head : goal.overflow_add-head
overflow_add-head c = let g = itself (goal.at.overflow_add-head c).After-bytes-n in omega arith

pub overflow_add-end : goal.overflow_add-end
overflow_add-end c = let g = itself (goal.at.overflow_add-end c).After-bytes-n in let e = ends (goal.at.overflow_add-end c).After-number in omega arith

pub overflow_add-head-2 : goal.overflow_add-head-2
overflow_add-head-2 c = let g = itself (goal.at.overflow_add-head-2 c).After-bytes-n in omega arith

pub overflow_sub-s : goal.overflow_sub-s
overflow_sub-s c = let g = itself (goal.at.overflow_sub-s c).After-bytes-n in let e = ends (goal.at.overflow_sub-s c).After-number in omega arith

pub returns-then-s-end : goal.returns-then-s-end
returns-then-s-end c = let g = itself (goal.at.returns-then-s-end c).After-bytes-n in let e = ends (goal.at.returns-then-s-end c).After-number in let m = covers (goal.at.returns-then-s-end c).After-number-more in
    sym (cover_bad _ _ (border_past _ _ (omega arith)))

pub overflow_add-stop : goal.overflow_add-stop
overflow_add-stop c = let g = itself (goal.at.overflow_add-stop c).After-bytes-n in let e = ends (goal.at.overflow_add-stop c).After-number in omega arith

pub loop-q-init : goal.loop-q-init
loop-q-init c = let g = itself (goal.at.loop-q-init c).After-bytes-n in let e = ends (goal.at.loop-q-init c).After-number in let m = covers (goal.at.loop-q-init c).After-number-more in
    rw e (covering_start _ _ _ (top_whole _ c.requires.0) g (omega arith) (omega arith))

pub returns-then-type_at-eq-AGGREGATOR : goal.returns-then-type_at-eq-AGGREGATOR
returns-then-type_at-eq-AGGREGATOR c = sym (covering_found _ _ _ _ _ c.loop-q.invariant c.loop-q-test.true (eq-eqb _ _ (sym c.type_at.ensures ∙ c.if-type_at-eq-AGGREGATOR.true)))

pub overflow_add-q-in-loop-q : goal.overflow_add-q-in-loop-q
overflow_add-q-in-loop-q c = let w = here (goal.at.overflow_add-q-in-loop-q c).In-loop-q in let a = c.args in
    let e = next_is a.k a.s.now _ _ _ c.bytes-n.ensures.0 c.number-in-loop-q.ensures in omega arith

pub loop-q-preserved : goal.loop-q-preserved
loop-q-preserved c = let a = c.args in rw (next_is a.k a.s.now c.loop-q.q _ _ c.bytes-n.ensures.0 c.number-in-loop-q.ensures) (covering_next _ _ _ _ _ c.loop-q.invariant c.loop-q-test.true (ne_eqb _ _ (λ e. c.if-type_at-eq-AGGREGATOR.false (c.type_at.ensures ∙ e))))

pub returns-then-q-stop : goal.returns-then-q-stop
returns-then-q-stop c = sym (covering_past _ _ _ _ _ c.loop-q.invariant c.loop-q-test.false c.if-q-stop.true)

pub returns : goal.returns
returns c = sym (covering_end _ _ _ _ _ c.loop-q.invariant c.if-q-stop.false)
