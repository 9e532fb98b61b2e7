-- The loop's invariant: the unit goes on from stop to stop. What is left after the zeros falls. Assumes nothing.
use Prim.Native.Nat.{◌-◌}
use lib.ListN.{length}
use Rattle.stream_reader.proofs.Ends.{Ending}
use Rattle.stream_reader.proofs.units.has_length.Given as goal

abbrev pub invariant-loop-next : goal.invariant-loop-next
invariant-loop-next l = Ending l.s l.start l.stop l.next

abbrev pub decreases-loop-next : goal.decreases-loop-next
decreases-loop-next l = length l.s - l.next
