-- A number past the table's end reads as 0. Assumes nothing.
use Rattle.std.proofs.Common.{rules}
use mathlib.Core.Path.{sym}
use native.Mathlib.Omega.{arith}
use lib.ListN.{get_or-eq_default}
use Rattle.tables.specs.Tables.{cell}
use Rattle.tables.proofs.cell.Goals as goal

pub returns-then-t-row : goal.returns-then-t-row
unfolding cell
returns-then-t-row c = sym (get_or-eq_default c.args.t.now 0 (omega arith))

pub returns : goal.returns
unfolding cell
returns c = search rules
