-- The loop's invariant: what is written of both so far. Assumes nothing.
use Prim.Native.Nat.{◌-◌}
use lib.ListN.{length}
use Rattle.units.specs.Units.{sample}
use Rattle.salvage.proofs.Loops.{Writing}
use Rattle.salvage.proofs.writing.write_units.Given as goal

abbrev pub invariant-loop-at : goal.invariant-loop-at
invariant-loop-at l = Writing (sample l.k l.y) l.initial.out l.initial.list l.at l.o l.c l.out l.list

abbrev pub decreases-loop-at : goal.decreases-loop-at
decreases-loop-at l = length l.y - l.at
