-- The loop goes on from a place where the unit stops where it did before. Assumes nothing.
use mathlib.Core.Path.{◌≡◌}
use Prim.Native.Nat.{◌-◌, ◌≤◌}
use lib.ListN.{length}
use Rattle.byte_streams.specs.Places.{unit_stop}
use Rattle.byte_streams.proofs.unit_stop.Given as goal

abbrev pub invariant-loop-i : goal.invariant-loop-i
invariant-loop-i l = (l.n ≡ length l.s) × (l.i ≤ l.n) × (unit_stop l.s l.i ≡ unit_stop l.s l.from)

abbrev pub decreases-loop-i : goal.decreases-loop-i
decreases-loop-i l = l.n - l.i
