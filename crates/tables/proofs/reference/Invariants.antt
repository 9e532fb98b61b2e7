-- The loop's invariant: count is how many of the first i references come from the track, and the one looked for is not among them. Assumes nothing.
use mathlib.Core.Path.{◌≡◌}
use Prim.Native.Nat.{◌≤◌, ◌<◌}
use Rattle.tables.proofs.References.{counted}
use Rattle.tables.proofs.reference.Given as goal

abbrev pub invariant-loop-i : goal.invariant-loop-i
invariant-loop-i l = (l.count ≤ l.i) × (l.count < l.index) × (l.count ≡ counted l.t l.k.0 l.i)
