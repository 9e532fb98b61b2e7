-- The loop's invariant: the rows of the first i samples are written, p is the place of the next entry, and place that of the next sample's bytes.
-- Assumes nothing.
use mathlib.Core.Path.{◌≡◌}
use lib.ListN.{length}
use Rattle.bundles.specs.Bundles.{recording_of, content_at}
use Rattle.tables.specs.Tables.{sample_row}
use Rattle.filling.specs.Filling.{write_rows, sample_cells}
use Rattle.filling.proofs.Rows.{start_of}
use Rattle.filling.proofs.fill_samples.Given as goal

abbrev pub invariant-loop-i : goal.invariant-loop-i
invariant-loop-i l = (l.place ≡ start_of l.b l.i) × (length l.t ≡ length l.initial.t) × (l.t ≡ write_rows l.initial.t (sample_row 1) (sample_cells (recording_of l.b) (content_at l.b)) l.i)
