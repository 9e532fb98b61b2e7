-- The loop's invariant: what is left of the walk from p on gives the whole walk's answer. Assumes nothing.
use mathlib.Core.Path.{◌≡◌}
use Prim.Native.Nat.{◌-◌}
use Rattle.sets.specs.Sets.{sets_fault, sets_end}
use Rattle.sets.proofs.walk_sets.Given as goal

abbrev pub invariant-loop : goal.invariant-loop
invariant-loop l =
    (sets_fault l.types l.s (l.n - l.counter) l.p ≡ sets_fault l.types l.s l.n l.at) × (sets_end l.s (l.n - l.counter) l.p ≡ sets_end l.s l.n l.at)
