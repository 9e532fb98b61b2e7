-- From the start of the buffer. Assumes nothing.
use native.Mathlib.Omega.{arith}
use mathlib.Core.Path.{◌∙◌}
use Rattle.words.proofs.Buffers.{write_first}
use Rattle.resolution.proofs.writing.write_units.Goals as goal

pub write_units_from-requires : goal.write_units_from-requires
write_units_from-requires c = (c.requires.0, c.requires.1, omega (arith, c.requires.2))

pub returns : goal.returns
returns c = c.write_units_from.ensures.1 ∙ write_first _ _
