-- The loop's invariant: the walk has come to p, and has not passed an extractor at the place. Assumes nothing.
use Prim.Native.Nat.{◌-◌}
use Rattle.units.specs.Units.{sample}
use Rattle.named_sample.proofs.Seeks.{Seeking}
use Rattle.named_sample.proofs.extractor_in.Given as goal

abbrev pub invariant-loop-p : goal.invariant-loop-p
invariant-loop-p l = Seeking (sample l.k l.x) l.at.0 l.p

abbrev pub decreases-loop-p : goal.decreases-loop-p
decreases-loop-p l = l.at.0 - l.p
