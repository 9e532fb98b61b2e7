-- The loop's invariant: the walk over what the aggregator covers has come to q and met no aggregator. Assumes nothing.
use Prim.Native.Nat.{◌-◌}
use lib.ListN.{length}
use Rattle.units.specs.Units.{sample}
use Rattle.units.proofs.Covers.{Covering}
use Rattle.samples.proofs.cover_fault.Given as goal

abbrev pub invariant-loop-q : goal.invariant-loop-q
invariant-loop-q l = Covering (sample l.k l.s) l.at l.end l.stop l.q

abbrev pub decreases-loop-q : goal.decreases-loop-q
decreases-loop-q l = length l.s - l.q
