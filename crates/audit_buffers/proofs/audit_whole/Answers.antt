-- The audit with room for all lines. Assumes nothing.
use native.Mathlib.Omega.{arith}
use lib.ListN.{length}
use Rattle.audit_buffers.proofs.Sizes.{lines_whole}
use Rattle.audit_buffers.proofs.audit_whole.Goals as goal

pub returns : goal.returns
returns c = let a = c.args in
    (rw (← lines_whole a.b.now (length a.lines.now) (omega arith)) c.audit.ensures.0, c.audit.ensures.1)
