-- The part, where it lies in the bytes. Assumes nothing.
use Rattle.std.proofs.lemmas.Grind.{common_steps}
use native.Mathlib.Omega.{arith}
use Rattle.tables.specs.Tables.{inside}
use Rattle.sample_tables.proofs.part_of.Goals as goal

pub returns : goal.returns
unfolding inside
returns c = grind (arith, common_steps)
