-- The loop's invariant: the rows of the first k tracks are written, p is the place of the next, and before is at most how many samples
-- stand before its own. Assumes nothing.
use mathlib.Core.Path.{◌≡◌}
use Prim.Native.Nat.{◌+◌, ◌≤◌}
use lib.ListN.{length}
use Rattle.words.specs.Walks.{skip}
use Rattle.bundles.specs.Bundles.{layout_of}
use Rattle.tables.specs.Tables.{track_row}
use Rattle.bundles.specs.Tracks.{tracks_at, track_end}
use Rattle.filling.specs.Filling.{write_rows, track_cells, samples_before}
use Rattle.filling.proofs.fill_tracks.Given as goal

abbrev pub invariant-loop-k : goal.invariant-loop-k
invariant-loop-k l = (l.p ≡ skip (track_end l.b) l.k (tracks_at l.b)) × (l.before ≤ samples_before (layout_of l.b) (l.k + 1)) × (length l.t ≡ length l.initial.t) × (l.t ≡ write_rows l.initial.t (track_row 1) (track_cells (layout_of l.b)) l.k)
