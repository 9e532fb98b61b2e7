-- Each return is a case of the fault. Assumes nothing.
use mathlib.Core.Path.{sym}
use Rattle.tables.specs.Tables.{layout_in}
use Rattle.links.proofs.Links.{link_good}
use Rattle.links.proofs.Cases.{link_zero, link_past}
use native.Mathlib.Nat.{pos_of_ne-zero}
use Rattle.links.proofs.link_fault.Goals as goal
use Rattle.links.proofs.link_fault.Goals.{then-index-eq0-via-then-index-eq0, then-index-eq0-via-else-index-eq0+then-reference_count-index}

pub returns-then-index-eq0 : goal.returns-then-index-eq0
returns-then-index-eq0 c = let a = c.args in
    elim c.then-index-eq0.branch [
      | then-index-eq0-via-then-index-eq0 w ↦ sym (link_zero (layout_in a.t.now) a.n.0 a.index w.if-index-eq0.true)
      | then-index-eq0-via-else-index-eq0+then-reference_count-index w ↦ sym (link_past (layout_in a.t.now) a.n.0 a.index w.if-index-eq0.false (rw (← w.sample_track.ensures, ← w.reference_count.ensures) w.if-reference_count-index.true))
    ]

pub returns : goal.returns
returns c = let a = c.args in
    sym (link_good (layout_in a.t.now) a.n.0 a.index (pos_of_ne-zero c.if-index-eq0.false) (rw (← c.sample_track.ensures, ← c.reference_count.ensures) c.if-reference_count-index.false))
