-- The loop's invariant: what is left of the walk over the included units gives their verdict. Assumes nothing.
use mathlib.Core.Path.{◌≡◌}
use Prim.Native.Nat.{◌-◌}
use Rattle.units.specs.Units.{sample}
use Rattle.units.specs.Aggregators.{included_start}
use Rattle.units.proofs.Walks.{walk}
use Rattle.samples.proofs.Walks.{included_judge}
use Rattle.salvage.proofs.fates.has_fault_inside.Given as goal

abbrev pub invariant-loop-q : goal.invariant-loop-q
invariant-loop-q l = let x = sample l.k l.y in walk x (included_judge x l.end) l.q l.end ≡ walk x (included_judge x l.end) (included_start x l.at) l.end

abbrev pub decreases-loop-q : goal.decreases-loop-q
decreases-loop-q l = l.end - l.q
