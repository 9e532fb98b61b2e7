-- The loop's invariant: the first i entries have no refusal, p is where the next stands, and total is the sum of their lengths.
-- Assumes nothing.
use mathlib.Core.Path.{◌≡◌}
use Prim.Native.Nat.{◌+◌, ◌*◌, ◌≤◌}
use mathlib.Core.List.{map}
use Rattle.words.specs.Lists.{sum, upto}
use Rattle.bundles.specs.Samples.{entry_at, entry_fault}
use Rattle.bundles.proofs.Passing.{Passed}
use Rattle.bundles.proofs.Checking.{length_of}
use Rattle.bundles.proofs.check_samples.Given as goal

abbrev pub invariant-loop-i : goal.invariant-loop-i
invariant-loop-i l = Passed (entry_fault l.b) (entry_at l.b) l.n l.i × (l.p ≡ entry_at l.b (l.i + 1)) × (l.total ≡ sum (map (length_of l.b) (upto l.i))) × (l.total ≤ l.i * 4294967295)
