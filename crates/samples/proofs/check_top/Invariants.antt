-- The loop's invariant: what is left of the walk from here on gives the whole verdict. Assumes nothing.
use Prim.Native.Nat.{◌-◌}
use lib.ListN.{length}
use Rattle.units.specs.Units.{sample}
use Rattle.samples.proofs.Walks.{TopWalk}
use Rattle.samples.proofs.check_top.Given as goal

abbrev pub invariant-loop-at : goal.invariant-loop-at
invariant-loop-at l = TopWalk (sample l.k l.s) l.at

abbrev pub decreases-loop-at : goal.decreases-loop-at
decreases-loop-at l = length l.s - l.at
