-- Five numbers, each below 2 to the 32nd. Assumes nothing.
use native.Mathlib.Omega.{arith}
use mathlib.Core.Path.{sym, ◌∙◌}
use Rattle.marks.specs.Marks.{state_in}
use Rattle.marks.proofs.Steps.{front_is, fits_front}
use Rattle.marks.proofs.Rows.{row_past}
use Rattle.marks.proofs.row.Goals as goal

pub returns-then-rows-i : goal.returns-then-rows-i
returns-then-rows-i c = let e = front_is c.default.ensures in (e ∙ sym (row_past _ _ c.if-rows-i.true), rw e fits_front)

pub returns : goal.returns
unfolding state_in
returns c = (
  rw (c.cell.ensures.0, c.cell-2.ensures.0, c.cell-3.ensures.0, c.cell-4.ensures.0, c.cell-5.ensures.0),
  record { count = omega arith; bytes = omega arith; extractors = omega arith },
)
