-- What is left of each walk gives its whole verdict. Assumes nothing.
use Prim.Native.Nat.{◌-◌}
use lib.ListN.{length}
use Rattle.units.specs.Units.{sample}
use Rattle.samples.proofs.Walks.{ContentWalk, IncludedWalk}
use Rattle.samples.proofs.check_contents.Given as goal

abbrev pub invariant-loop-q : goal.invariant-loop-q
invariant-loop-q l = IncludedWalk (sample l.k l.s) l.at l.end l.q

abbrev pub decreases-loop-q : goal.decreases-loop-q
decreases-loop-q l = l.end - l.q

abbrev pub invariant-walk : goal.invariant-walk
invariant-walk l = ContentWalk (sample l.k l.s) l.at

abbrev pub decreases-walk : goal.decreases-walk
decreases-walk l = length l.s - l.at
