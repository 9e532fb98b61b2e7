-- A sample that there is not, or the number of its row. Assumes nothing.
use native.Mathlib.Omega.{arith}
use mathlib.Core.Path.{sym, ◌∙◌}
use Rattle.sample_tables.proofs.Cells.{cell_none, cell_past, cell_here}
use native.Mathlib.Nat.{pos_of_ne-zero}
use Rattle.sample_tables.proofs.sample_cell.Goals as goal
use Rattle.sample_tables.proofs.sample_cell.Goals.{then-n-eq0-via-then-n-eq0, then-n-eq0-via-else-n-eq0+then-sample_total-n}

pub returns-then-n-eq0 : goal.returns-then-n-eq0
returns-then-n-eq0 c = let a = c.args in
    elim c.then-n-eq0.branch [
      | then-n-eq0-via-then-n-eq0 w ↦ sym (cell_none a.t.now a.n.0 a.column w.if-n-eq0.true)
      | then-n-eq0-via-else-n-eq0+then-sample_total-n w ↦ sym (cell_past a.t.now a.n.0 a.column (omega (arith, w.sample_total.ensures.0)))
    ]

pub returns : goal.returns
returns c = let a = c.args in
    c.cell.ensures ∙ sym (cell_here a.t.now a.n.0 a.column (pos_of_ne-zero c.if-n-eq0.false) (omega (arith, c.sample_total.ensures.0)))
