-- A sample that there is not, or its track. Assumes nothing.
use native.Mathlib.Omega.{arith}
use native.Mathlib.Nat.{pos_of_ne-zero}
use mathlib.Core.Path.{sym, ap, ◌∙◌}
use Rattle.tables.proofs.Layouts.{entry_here, entry_none, entry_past}
use Rattle.sample_tables.proofs.sample_track.Goals as goal
use Rattle.sample_tables.proofs.sample_track.Goals.{then-n-eq0-via-then-n-eq0, then-n-eq0-via-else-n-eq0+then-sample_total-n}

pub returns-then-n-eq0 : goal.returns-then-n-eq0
returns-then-n-eq0 c = let a = c.args in
    elim c.then-n-eq0.branch [
      | then-n-eq0-via-then-n-eq0 w ↦ sym (ap (λ e. e.track) (entry_none a.t.now a.n.0 w.if-n-eq0.true))
      | then-n-eq0-via-else-n-eq0+then-sample_total-n w ↦ sym (ap (λ e. e.track) (entry_past a.t.now a.n.0 (omega (arith, w.sample_total.ensures.0))))
    ]

pub returns : goal.returns
returns c = let a = c.args in
    c.owner.ensures ∙ sym (ap (λ e. e.track) (entry_here a.t.now a.n.0 (pos_of_ne-zero c.if-n-eq0.false) (omega (arith, c.sample_total.ensures.0))))
