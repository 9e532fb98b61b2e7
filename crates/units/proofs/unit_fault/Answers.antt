-- The type that was read is that of the definition. Assumes nothing.
use native.Mathlib.Omega.{arith}
use Rattle.words.proofs.Tests.{tests}
use Rattle.units.specs.Units.{type, unit_fault}
use Rattle.units.proofs.unit_fault.Goals as goal

pub returns-then-bytes-least_size : goal.returns-then-bytes-least_size
unfolding type unit_fault
returns-then-bytes-least_size c = grind (arith, tests)

pub returns : goal.returns
unfolding type unit_fault
returns c = grind (arith, tests)
