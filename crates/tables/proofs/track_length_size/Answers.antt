-- A track that there is not, or the numbers of its row. Assumes nothing.
use native.Mathlib.Omega.{arith}
use Rattle.tables.proofs.Layouts.{track_here, track_none, track_past}
use native.Mathlib.Nat.{pos_of_ne-zero}
use Rattle.tables.proofs.track_length_size.Goals as goal
use Rattle.tables.proofs.track_length_size.Goals.{then-k-eq0-via-then-k-eq0, then-k-eq0-via-else-k-eq0+then-track_total-k}

pub returns-then-k-eq0 : goal.returns-then-k-eq0
returns-then-k-eq0 c = let a = c.args in
    elim c.then-k-eq0.branch [
      | then-k-eq0-via-then-k-eq0 w ↦ rw (track_none a.t.now a.k.0 w.if-k-eq0.true)
      | then-k-eq0-via-else-k-eq0+then-track_total-k w ↦ rw (track_past a.t.now a.k.0 (omega (arith, w.track_total.ensures.0)))
    ]

pub returns : goal.returns
returns c = let a = c.args in
    rw (track_here a.t.now a.k.0 (pos_of_ne-zero c.if-k-eq0.false) (omega (arith, c.track_total.ensures.0)), ← c.cell.ensures) c.size_of.ensures
