-- The loop's invariant: at least n samples have a track below k. Assumes nothing.
use Prim.Native.Nat.{◌≤◌}
use Rattle.bundles.specs.Bundles.{layout_of}
use Rattle.filling.specs.Filling.{samples_before}
use Rattle.filling.proofs.samples_before.Given as goal

abbrev pub invariant-loop-n : goal.invariant-loop-n
invariant-loop-n l = l.n ≤ samples_before (layout_of l.b) l.k
