-- The loop's invariant: the walk over the references has passed some of them and come to the place p. Assumes nothing.
use Prim.Native.Nat.{◌+◌}
use Rattle.words.proofs.Entries.{Walked}
use Rattle.bundles.specs.Fields.{reference_count_size, reference_size}
use Rattle.bundles.specs.References.{reference_fault}
use Rattle.bundles.proofs.check_references.Given as goal

abbrev pub invariant-loop : goal.invariant-loop
invariant-loop l = Walked (λ q. q + reference_size) (reference_fault l.b) (l.at + reference_count_size) l.n l.counter l.p
