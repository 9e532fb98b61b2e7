-- The loop's invariant: the search goes on among the numbers left, with the rounds counted so far. Assumes nothing.
use native.Mathlib.Omega.{arith}
use mathlib.Core.Path.{◌≡◌, ap, ◌∙◌}
use lib.ListN.{length}
use Prim.Native.Nat.{◌+◌, ◌-◌, ◌≤◌}
use borrow.Author.Tests.{le-leb, lt-leb}
use Rattle.words.specs.Tests.{◌≤?◌}
use Rattle.bundles.specs.Limits.{sample_most}
use Rattle.bundles.specs.Recordings.{time_of, samples_in}
use Rattle.tables.specs.Tables.{layout_in}
use Rattle.links.specs.declared.SearchResult.{SearchResult}
use Rattle.links.specs.Halving.{middle, binary_digits}
use Rattle.links.specs.Links.{base_search}
use Rattle.links.proofs.Links.{search_rounds}
use Rattle.links.proofs.Cases.{range_most, Searching, searching_begun, searching_after, searching_before, searching_done, base_searched}
use Rattle.links.proofs.find_base.Goals as goal
use Rattle.links.proofs.find_base.Goals.{After-loop-low, In-loop-low, Then-time-own}

-- the samples of a track end within the limit
limit : (c : In-loop-low) → c.sample_range-range.result.after ≤ sample_most
limit c = rw c.sample_range-range.ensures.0 (range_most _ _)

pub loop-low-init : goal.loop-low-init
loop-low-init c = searching_begun _ _ c.size-high.ensures

pub overflow_add-middle : goal.overflow_add-middle
overflow_add-middle c = let m = limit (goal.at.overflow_add-middle c).In-loop-low in omega arith

pub overflow_add-middle-in-loop-low : goal.overflow_add-middle-in-loop-low
overflow_add-middle-in-loop-low c = let m = limit (goal.at.overflow_add-middle-in-loop-low c).In-loop-low in omega arith

pub overflow_add-rounds : goal.overflow_add-rounds
overflow_add-rounds c = let m = limit (goal.at.overflow_add-rounds c).In-loop-low in omega arith

pub overflow_add-range : goal.overflow_add-range
overflow_add-range c = let m = limit (goal.at.overflow_add-range c).In-loop-low in omega arith

-- the middle sample is at or before: those after it are left
after : (c : Then-time-own) → let l = c.loop-low in let r = c.sample_range-range.result in Searching (λ i. time_of (layout_in c.args.t.now) (r.before + i) ≤? c.sample_time-own.result) (r.after - r.before) (middle l.low l.high) l.high (l.rounds + 1)
after c =
    let y = layout_in c.args.t.now in
    let l = c.loop-low in
    let e = c.sample_time-time.ensures in
    searching_after _ _ l.invariant (omega arith) (le-leb (time_of y (c.sample_range-range.result.before + middle l.low l.high)) c.sample_time-own.result (omega arith))

pub loop-low-smaller-then-time-own : goal.loop-low-smaller-then-time-own
loop-low-smaller-then-time-own c = omega arith

pub loop-low-preserved-then-time-own : goal.loop-low-preserved-then-time-own
loop-low-preserved-then-time-own c = after (goal.at.loop-low-preserved-then-time-own c).Then-time-own

-- else those before it
pub overflow_sub-high : goal.overflow_sub-high
overflow_sub-high c = omega arith

pub loop-low-smaller : goal.loop-low-smaller
loop-low-smaller c = omega arith

pub loop-low-preserved : goal.loop-low-preserved
loop-low-preserved c = let y = layout_in c.args.t.now in
    let l = c.loop-low in
    let e = c.sample_time-time.ensures in
    searching_before _ _ l.invariant (omega arith) (lt-leb (time_of y (c.sample_range-range.result.before + middle l.low l.high)) c.sample_time-own.result (omega arith))

-- none is left
done : (c : After-loop-low) → let a = c.args in ◌≡◌ {A = SearchResult} (record { found = c.loop-low.low; rounds = c.loop-low.rounds }) (base_search (layout_in a.t.now) a.n.0 a.track.0)
done c =
    let a = c.args in
    searching_done _ _ c.loop-low.invariant (omega arith) ∙ rw (← c.sample_time-own.ensures, ← c.sample_range-range.ensures.0) at (base_searched a.t.now a.n.0 a.track.0)

bounded : (c : After-loop-low) → let a = c.args in c.loop-low.rounds ≤ binary_digits (length (samples_in (layout_in a.t.now) a.track.0))
bounded c =
    let a = c.args in
    rw (ap (λ (s : SearchResult). s.rounds) (done c)) (search_rounds (layout_in a.t.now) a.n.0 a.track.0)

pub returns : goal.returns
returns c = (done (goal.at.returns c).After-loop-low, bounded (goal.at.returns c).After-loop-low)
