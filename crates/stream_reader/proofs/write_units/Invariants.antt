-- The loop's invariant: what is written so far, with what is left, is the sample. The rest falls. Assumes nothing.
use Prim.Native.Nat.{◌-◌}
use lib.ListN.{length}
use Rattle.numbers.specs.Sizes.{in_bytes}
use Rattle.stream_reader.proofs.Writes.{Writing}
use Rattle.stream_reader.proofs.write_units.Given as goal

abbrev pub invariant-loop-p : goal.invariant-loop-p
invariant-loop-p l = Writing (in_bytes l.l) l.s l.first l.initial.out l.out l.at l.p

abbrev pub decreases-loop-p : goal.decreases-loop-p
decreases-loop-p l = length l.s - l.p
