-- The loop's invariant: what was added up so far, with what is left, is the size of the sample. The rest falls. Assumes nothing.
use Prim.Native.Nat.{◌-◌}
use lib.ListN.{length}
use Rattle.numbers.specs.Sizes.{in_bytes}
use Rattle.stream_reader.proofs.Measures.{Measuring}
use Rattle.stream_reader.proofs.measure.Given as goal

abbrev pub invariant-loop-p : goal.invariant-loop-p
invariant-loop-p l = Measuring (in_bytes l.l) l.s l.room l.t l.p

abbrev pub decreases-loop-p : goal.decreases-loop-p
decreases-loop-p l = length l.s - l.p
