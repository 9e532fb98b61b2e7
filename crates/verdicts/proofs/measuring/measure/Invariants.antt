-- The invariant: what the units before p deliver is counted. Assumes nothing.
use Prim.Native.Nat.{◌-◌}
use lib.ListN.{length}
use Rattle.units.specs.Units.{sample}
use Rattle.tables.specs.Tables.{recording_in}
use Rattle.verdicts.proofs.Counting.{Counting}
use Rattle.verdicts.proofs.measuring.measure.Given as goal

abbrev pub invariant-loop-p : goal.invariant-loop-p
invariant-loop-p l = Counting (recording_in l.b l.t) l.n.0 (sample l.k l.x) l.count l.own l.copied l.p

abbrev pub decreases-loop-p : goal.decreases-loop-p
decreases-loop-p l = length l.x - l.p
