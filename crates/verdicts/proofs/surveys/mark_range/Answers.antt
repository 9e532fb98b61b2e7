-- The invariant: what is known is right. Assumes nothing.
use native.Mathlib.Omega.{arith}
use mathlib.Core.Path.{refl, ◌∙◌}
use Rattle.verdicts.proofs.surveys.mark_range.Goals as goal

pub loop-n-init : goal.loop-n-init
loop-n-init c = (c.requires.2, refl, refl)

pub mark_with_named-used-requires : goal.mark_with_named-used-requires
mark_with_named-used-requires c = let i = c.loop-n.invariant in (c.requires.0, omega (arith, c.requires.1, i.2), i.0)

pub loop-n-preserved : goal.loop-n-preserved
loop-n-preserved c = let i = c.loop-n.invariant in (c.mark_with_named-used.ensures, c.mark_with_named-used.auto.forms ∙ i.1, c.mark_with_named-used.auto.rows ∙ i.2)

pub shape_of-forms : goal.shape_of-forms
shape_of-forms c = c.loop-n.invariant.1

pub shape_of-rows : goal.shape_of-rows
shape_of-rows c = c.loop-n.invariant.2

pub returns : goal.returns
returns c = c.loop-n.invariant.0.tells
