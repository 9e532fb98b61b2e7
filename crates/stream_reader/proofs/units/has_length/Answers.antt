-- The loop's invariant: the unit goes on from stop to stop. What is left after the zeros falls. Assumes nothing.
use borrow.Author.Tests.{le-leb, lt-leb}
use native.Mathlib.Omega.{arith}
use Prim.Native.Nat.{ℕ, ◌<◌}
use mathlib.Core.Path.{ap, sym}
use lib.ListN.{length}
use Rattle.words.specs.Tests.{◌≤?◌}
use Rattle.stream_reader.specs.Steps.{unit_from}
use Rattle.stream_reader.proofs.Ends.{unit_most, Ending, ending_start, ending_past, ending_on, ending_done}
use Rattle.stream_reader.proofs.units.has_length.Goals as goal
use Rattle.stream_reader.proofs.units.has_length.Goals.{After-zeros_end-next-in-loop-next}

pub returns-then-s-start : goal.returns-then-s-start
returns-then-s-start c = let a = c.args in
    let u = unit_from a.s.now a.start in
    let most = unit_most a.s.now a.start in
    sym (lt-leb a.least (length u) (omega arith))

pub loop-next-init : goal.loop-next-init
loop-next-init c = let a = c.args in
    let u = c.unit_stop-stop in
    ending_start a.s.now a.start u.result c.zeros_end-next.result c.requires u.ensures c.zeros_end-next.ensures

pub overflow_sub-result : goal.overflow_sub-result
overflow_sub-result c = c.loop-next.invariant.order.0

pub returns-then-s-next-eq1 : goal.returns-then-s-next-eq1
returns-then-s-next-eq1 c = let a = c.args in
    let l = c.loop-next in
    let e = ending_done a.s.now a.start l.stop l.next l.invariant (λ i. c.if-s-next-eq1.true) in
    ap (λ (n : ℕ). a.least ≤? n) (omega arith)

pub overflow_sub-next : goal.overflow_sub-next
overflow_sub-next c = let o = c.loop-next.invariant.order in omega arith

pub returns-then-least-next : goal.returns-then-least-next
returns-then-least-next c = let a = c.args in
    let l = c.loop-next in
    let u = unit_from a.s.now a.start in
    let past = ending_past a.s.now a.start l.stop l.next l.invariant c.loop-next-test.true c.if-s-next-eq1.false in
    sym (le-leb a.least (length u) (omega arith))

-- a step
on :
    (c : After-zeros_end-next-in-loop-next) →
    let a = c.args in
    let l = c.loop-next in
    (l.next < c.zeros_end-next-in-loop-next.result) × Ending a.s.now a.start c.unit_stop-stop-in-loop-next.result c.zeros_end-next-in-loop-next.result
on c =
    let a = c.args in
    let l = c.loop-next in
    let i = c.loop-next-test.true in
    let u = c.unit_stop-stop-in-loop-next in
    ending_on a.s.now a.start l.stop l.next l.invariant i c.if-s-next-eq1.false u.result c.zeros_end-next-in-loop-next.result u.ensures c.zeros_end-next-in-loop-next.ensures

pub loop-next-smaller : goal.loop-next-smaller
loop-next-smaller c = let k = (on (goal.at.loop-next-smaller c).After-zeros_end-next-in-loop-next).0 in omega arith

pub loop-next-preserved : goal.loop-next-preserved
loop-next-preserved c = (on (goal.at.loop-next-preserved c).After-zeros_end-next-in-loop-next).1

pub overflow_sub-result-2 : goal.overflow_sub-result-2
overflow_sub-result-2 c = c.loop-next.invariant.order.0

pub returns : goal.returns
returns c = let a = c.args in
    let l = c.loop-next in
    let e = ending_done a.s.now a.start l.stop l.next l.invariant (λ i. absurd (omega arith)) in
    ap (λ (n : ℕ). a.least ≤? n) (omega arith)
