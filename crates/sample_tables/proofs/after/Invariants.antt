-- The loop's invariant: end is the least start of the first j tracks' samples, as far as they come after track k. Assumes nothing.
use mathlib.Core.Path.{◌≡◌}
use Rattle.tables.specs.Tables.{after_in}
use Rattle.sample_tables.proofs.after.Given as goal

abbrev pub invariant-loop-j : goal.invariant-loop-j
invariant-loop-j l = l.end ≡ after_in l.t l.k l.j
