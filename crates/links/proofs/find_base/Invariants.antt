-- The loop's invariant: the search goes on among the numbers left, with the rounds counted so far. Assumes nothing.
use Prim.Native.Nat.{◌+◌, ◌-◌}
use Rattle.words.specs.Tests.{◌≤?◌}
use Rattle.bundles.specs.Recordings.{time_of}
use Rattle.tables.specs.Tables.{layout_in}
use Rattle.links.proofs.Cases.{Searching}
use Rattle.links.proofs.find_base.Given as goal

abbrev pub invariant-loop-low : goal.invariant-loop-low
invariant-loop-low l = Searching (λ i. time_of (layout_in l.t) (l.range.before + i) ≤? l.own) (l.range.after - l.range.before) l.low l.high l.rounds

abbrev pub decreases-loop-low : goal.decreases-loop-low
decreases-loop-low l = l.high - l.low
