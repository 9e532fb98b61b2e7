-- The time stands in the sample's row. Assumes nothing.
use mathlib.Core.Path.{sym, ◌∙◌}
use Rattle.sample_tables.proofs.Cells.{time_cell}
use Rattle.sample_tables.proofs.sample_time.Goals as goal

pub returns : goal.returns
returns c = c.sample_cell.ensures ∙ sym (time_cell _ _)
