-- The loop's invariant: the rows of the first i references are written, and p is the place of the next. Assumes nothing.
use mathlib.Core.Path.{◌≡◌}
use Prim.Native.Nat.{◌+◌}
use lib.ListN.{length}
use Rattle.words.specs.Walks.{skip}
use Rattle.filling.specs.Filling.{write_rows, reference_cells}
use Rattle.bundles.specs.Fields.{reference_size}
use Rattle.bundles.specs.Bundles.{layout_of}
use Rattle.tables.specs.Tables.{reference_row}
use Rattle.filling.proofs.fill_references.Given as goal

abbrev pub invariant-loop-i : goal.invariant-loop-i
invariant-loop-i l = (l.p ≡ skip (λ q. q + reference_size) l.i l.start) × (length l.t ≡ length l.initial.t) × (l.t ≡ write_rows l.initial.t (reference_row 1) (reference_cells (layout_of l.b)) l.i)
