-- The invariant: what is known is right. Assumes nothing.
use native.Mathlib.Omega.{arith}
use mathlib.Core.Path.{refl, sym, ap, ◌∙◌}
use Prim.Native.Nat.{ℕ}
use Rattle.numbers.proofs.Laws.{L_some}
use Rattle.units.specs.Units.{Sample, sample}
use Rattle.units.specs.declared.NalUnit.{NalUnit}
use Rattle.units.proofs.Units.{next_after}
use Rattle.unit_steps.proofs.Items.{aggregator_is, extractor_is, unit_is}
use Rattle.verdicts.proofs.surveys.mark_named_from.Goals as goal
use Rattle.verdicts.proofs.surveys.mark_named_from.Goals.{After-item_at}

abbrev X : After-item_at → Sample
X c = let a = c.args in sample a.k a.x.now

abbrev Q : After-item_at → ℕ
Q c = c.loop-p.p

pub loop-p-init : goal.loop-p-init
loop-p-init c = (c.requires.2, refl, refl)

pub shape_of-forms-in-Nothing : goal.shape_of-forms-in-Nothing
shape_of-forms-in-Nothing c = c.loop-p.invariant.1

pub shape_of-rows-in-Nothing : goal.shape_of-rows-in-Nothing
shape_of-rows-in-Nothing c = c.loop-p.invariant.2

pub returns-in-Nothing : goal.returns-in-Nothing
returns-in-Nothing c = c.loop-p.invariant.0

pub loop-p-smaller-in-Aggregator : goal.loop-p-smaller-in-Aggregator
loop-p-smaller-in-Aggregator c = let l = L_some (X (goal.at.loop-p-smaller-in-Aggregator c).After-item_at).length_size in let e = (aggregator_is (X (goal.at.loop-p-smaller-in-Aggregator c).After-item_at) (Q (goal.at.loop-p-smaller-in-Aggregator c).After-item_at) (sym c.item_at.ensures ∙ c.in-Aggregator.is)).1 in omega (arith, c.loop-p-test.true)

pub loop-p-preserved-in-Aggregator : goal.loop-p-preserved-in-Aggregator
loop-p-preserved-in-Aggregator c = c.loop-p.invariant

pub mark_linked-used-requires : goal.mark_linked-used-requires
mark_linked-used-requires c = let i = c.loop-p.invariant in (c.requires.0, omega (arith, c.requires.1, i.2), i.0)

pub loop-p-smaller-in-Extractor : goal.loop-p-smaller-in-Extractor
loop-p-smaller-in-Extractor c = let l = next_after (X (goal.at.loop-p-smaller-in-Extractor c).After-item_at) (Q (goal.at.loop-p-smaller-in-Extractor c).After-item_at) in let e = (extractor_is (X (goal.at.loop-p-smaller-in-Extractor c).After-item_at) (Q (goal.at.loop-p-smaller-in-Extractor c).After-item_at) (sym c.item_at.ensures ∙ c.in-Extractor.is)).2 in omega (arith, c.loop-p-test.true)

pub loop-p-preserved-in-Extractor : goal.loop-p-preserved-in-Extractor
loop-p-preserved-in-Extractor c = let i = c.loop-p.invariant in (c.mark_linked-used.ensures, c.mark_linked-used.auto.forms ∙ i.1, c.mark_linked-used.auto.rows ∙ i.2)

pub loop-p-smaller : goal.loop-p-smaller
loop-p-smaller c = let l = next_after (X (goal.at.loop-p-smaller c).After-item_at) (Q (goal.at.loop-p-smaller c).After-item_at) in let e = ap (λ (u : NalUnit). u.next.0) (unit_is (X (goal.at.loop-p-smaller c).After-item_at) (Q (goal.at.loop-p-smaller c).After-item_at) (sym c.item_at.ensures ∙ c.in-Unit.is)).2 in omega (arith, c.loop-p-test.true)

pub loop-p-preserved : goal.loop-p-preserved
loop-p-preserved c = c.loop-p.invariant

pub shape_of-forms : goal.shape_of-forms
shape_of-forms c = c.loop-p.invariant.1

pub shape_of-rows : goal.shape_of-rows
shape_of-rows c = c.loop-p.invariant.2

pub returns : goal.returns
returns c = c.loop-p.invariant.0
