-- The loop's invariant: found is the last of the tracks before k that has fewer than n samples before it. Assumes nothing.
use mathlib.Core.Path.{◌≡◌}
use Prim.Native.Nat.{◌+◌, ◌-◌, ◌≤◌}
use Rattle.words.specs.Tests.{◌<?◌}
use Rattle.words.specs.Lists.{last_that, upto}
use Rattle.tables.specs.Tables.{before_in}
use Rattle.sample_tables.proofs.owner.Given as goal

abbrev pub invariant-loop-k : goal.invariant-loop-k
invariant-loop-k l = (l.k ≤ l.total + 1) × (l.found ≡ last_that (λ m. before_in l.t m <? l.n) (upto (l.k - 1)))
