-- The table of an accepted bundle, with room for any. Assumes nothing.
use native.Mathlib.Omega.{arith}
use Rattle.audit_buffers.proofs.Sizes.{table_whole}
use Rattle.audit_buffers.proofs.fill.Goals as goal

pub returns : goal.returns
returns c = let a = c.args in
    (c.fill_table.ensures.1, table_whole a.b.now a.t.now c.fill_table.ensures.1 (omega arith))
