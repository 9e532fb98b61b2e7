-- The part that the numbers of the sample's row say. Assumes nothing.
use Rattle.sample_tables.proofs.Cells.{content_cells}
use Rattle.sample_tables.proofs.sample_bytes.Goals as goal

pub returns : goal.returns
returns c = rw (content_cells _ _ _, ← c.sample_cell.ensures, ← c.sample_cell-2.ensures) c.part_of.ensures
