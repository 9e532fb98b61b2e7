-- The loop's invariant: what is counted so far, and what is left, are all. Assumes nothing.
use Prim.Native.Nat.{◌-◌}
use lib.ListN.{length}
use Rattle.units.specs.Units.{sample}
use Rattle.salvage.proofs.Loops.{Measuring}
use Rattle.salvage.proofs.writing.measure.Given as goal

abbrev pub invariant-loop-at : goal.invariant-loop-at
invariant-loop-at l = Measuring (sample l.k l.y) l.at l.left l.listed

abbrev pub decreases-loop-at : goal.decreases-loop-at
decreases-loop-at l = length l.y - l.at
