-- From the front, or from the mark before. Assumes nothing.
use native.Mathlib.Omega.{arith}
use mathlib.Core.Path.{◌≡◌, refl, ap, ◌∙◌}
use Prim.Native.Nat.{◌+◌, ◌-◌, ◌/◌}
use borrow.Author.Tests.{eq-eqb, ne_eqb}
use Rattle.words.specs.Tests.{◌≡?◌, pick}
use Rattle.units.specs.Units.{sample}
use Rattle.mark_rules.specs.States.{front, reach}
use Rattle.marks.specs.Marks.{block, state_in, state_by}
use Rattle.marks.specs.Fits.{Fits}
use Rattle.marks.proofs.Steps.{front_is, fits_front}
use Rattle.marks.proofs.Rows.{row_saturated}
use Rattle.marks.proofs.state_at.Goals as goal
use Rattle.marks.proofs.state_at.Goals.{Joined-blocks-eq0, then-blocks-eq0, else-blocks-eq0}

start : (c : Joined-blocks-eq0) → let a = c.args in
    (c.if-blocks-eq0.from ≡ pick (a.to / block ≡? 0) front (state_in a.rows.now (a.base + (a.to / block - 1)))) × Fits c.if-blocks-eq0.from
start c = elim c.if-blocks-eq0.branch [
  | then-blocks-eq0 w ↦ rw (w.from-is, front_is w.default-from.ensures, eq-eqb _ _ w.if-blocks-eq0.true) (refl, fits_front)
  | else-blocks-eq0 w ↦ rw (w.from-is, ne_eqb _ _ w.if-blocks-eq0.false) (w.row-from.ensures.0 ∙ rw w.saturating_add.ensures (row_saturated _ _ _ (omega arith)), w.row-from.ensures.1)
]

pub reach-requires : goal.reach-requires
reach-requires c = ((start (goal.at.reach-requires c).Joined-blocks-eq0).1, c.requires)

pub returns : goal.returns
unfolding state_by
returns c = let a = c.args in (c.reach.ensures.0 ∙ ap (reach (sample a.k a.z.now) a.to) (start (goal.at.returns c).Joined-blocks-eq0).0, c.reach.ensures.1)
