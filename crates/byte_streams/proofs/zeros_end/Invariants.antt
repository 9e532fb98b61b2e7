-- The loop goes on from a place where the zeros end where they did before. Assumes nothing.
use mathlib.Core.Path.{◌≡◌}
use Prim.Native.Nat.{◌-◌}
use lib.ListN.{length}
use Rattle.byte_streams.specs.Places.{zeros_end}
use Rattle.byte_streams.proofs.zeros_end.Given as goal

abbrev pub invariant-loop-p : goal.invariant-loop-p
invariant-loop-p l = zeros_end l.s l.p ≡ zeros_end l.s l.from

abbrev pub decreases-loop-p : goal.decreases-loop-p
decreases-loop-p l = length l.s - l.p
