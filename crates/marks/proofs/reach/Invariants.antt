-- The invariant: from here the walk comes to the same state. Assumes nothing.
use mathlib.Core.Path.{◌≡◌}
use Prim.Native.Nat.{◌-◌}
use Rattle.units.specs.Units.{sample}
use Rattle.mark_rules.specs.States.{reach}
use Rattle.marks.specs.Fits.{Fits}
use Rattle.marks.proofs.reach.Given as goal

abbrev pub invariant-loop-s : goal.invariant-loop-s
invariant-loop-s l = Fits l.s × (reach (sample l.k l.z) l.to l.s ≡ reach (sample l.k l.z) l.to l.initial.s)

abbrev pub decreases-loop-s : goal.decreases-loop-s
decreases-loop-s l = l.to - l.s.place
