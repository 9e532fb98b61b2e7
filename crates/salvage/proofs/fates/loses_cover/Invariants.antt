-- The loop's invariant: the walk over what the aggregator covers has come to q, and met no aggregator and no unit that is dropped. Assumes nothing.
use mathlib.Core.Path.{◌≡◌}
use mathlib.Core.Bool.{true}
use Prim.Native.Nat.{◌-◌}
use lib.ListN.{length}
use Rattle.units.specs.Units.{sample, is_aggregator}
use Rattle.salvage.proofs.UnitFates.{Losing}
use Rattle.salvage.proofs.fates.loses_cover.Given as goal

abbrev pub invariant-loop-q : goal.invariant-loop-q
invariant-loop-q l = (t : is_aggregator (sample l.k l.y) l.at ≡ true) → Losing (sample l.k l.y) l.at t l.end l.stop l.q

abbrev pub decreases-loop-q : goal.decreases-loop-q
decreases-loop-q l = length l.y - l.q
