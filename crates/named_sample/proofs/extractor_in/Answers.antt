-- The loop's invariant: the walk has come to p, and has not passed an extractor at the place. Assumes nothing.
use native.Mathlib.Omega.{arith}
use mathlib.Core.Path.{◌≡◌, ap, sym, ◌∙◌}
use mathlib.Core.Bool.{true, false}
use Prim.Native.Nat.{ℕ}
use Rattle.units.specs.Units.{Sample, sample, next, is_aggregator}
use Rattle.units.specs.Aggregators.{included_start}
use Rattle.units.proofs.Units.{next_after}
use Rattle.unit_steps.proofs.Items.{aggregator_is, extractor_is, unit_is}
use Rattle.copies.proofs.Rest.{walking_never}
use Rattle.named_sample.proofs.Seeks.{none_past, seeking_start, seeking_passed, seeking_here, seeking_skip, seeking_next}
use Rattle.units.specs.declared.NalUnit.{NalUnit}
use Rattle.named_sample.proofs.extractor_in.Goals as goal
use Rattle.named_sample.proofs.extractor_in.Goals.{After-item_at, In-Aggregator, In-Extractor, In-Unit}

abbrev X : After-item_at → Sample
X c = sample c.args.k c.args.x.now

abbrev P : After-item_at → ℕ
P c = c.loop-p.p

abbrev X_After_known_told : In-Aggregator → Sample
X_After_known_told c = sample c.args.k c.args.x.now

abbrev P_After_known_told : In-Aggregator → ℕ
P_After_known_told c = c.loop-p.p

-- it is an aggregator, an extractor, or another unit
aggregator : (c : In-Aggregator) → (is_aggregator (X_After_known_told c) (P_After_known_told c) ≡ true) × (c.in-Aggregator.included.0 ≡ included_start (X_After_known_told c) (P_After_known_told c))
aggregator c = aggregator_is _ _ (sym c.item_at.ensures ∙ c.in-Aggregator.is)

abbrev X_After_known_told2 : In-Extractor → Sample
X_After_known_told2 c = sample c.args.k c.args.x.now

abbrev P_After_known_told2 : In-Extractor → ℕ
P_After_known_told2 c = c.loop-p.p

extractor : (c : In-Extractor) → (is_aggregator (X_After_known_told2 c) (P_After_known_told2 c) ≡ false) × (c.in-Extractor.next.0 ≡ next (X_After_known_told2 c) (P_After_known_told2 c))
extractor c = let w = extractor_is _ _ (sym c.item_at.ensures ∙ c.in-Extractor.is) in (w.0, w.2)

abbrev X_After_known_told3 : In-Unit → Sample
X_After_known_told3 c = sample c.args.k c.args.x.now

abbrev P_After_known_told3 : In-Unit → ℕ
P_After_known_told3 c = c.loop-p.p

unit : (c : In-Unit) → (is_aggregator (X_After_known_told3 c) (P_After_known_told3 c) ≡ false) × (c.in-Unit.u.next.0 ≡ next (X_After_known_told3 c) (P_After_known_told3 c))
unit c = let w = unit_is _ _ (sym c.item_at.ensures ∙ c.in-Unit.is) in (w.0, ap (λ (u : NalUnit). u.next.0) w.2)

pub returns-then-x-at : goal.returns-then-x-at
returns-then-x-at c = none_past _ _ c.requires c.if-x-at.true

pub loop-p-init : goal.loop-p-init
loop-p-init c = seeking_start _ _ c.requires

pub returns-in-Nothing : goal.returns-in-Nothing
returns-in-Nothing c = let l = c.if-x-at.false in
    let h = c.loop-p-test.true in
    walking_never _ _ _ c.loop-p.invariant.walking (omega arith) (sym c.item_at.ensures ∙ c.in-Nothing.is)

pub loop-p-smaller-in-Aggregator : goal.loop-p-smaller-in-Aggregator
loop-p-smaller-in-Aggregator c = let w = aggregator (goal.at.loop-p-smaller-in-Aggregator c).In-Aggregator in let h = c.loop-p-test.true in omega arith

pub loop-p-preserved-in-Aggregator : goal.loop-p-preserved-in-Aggregator
loop-p-preserved-in-Aggregator c = let w = aggregator (goal.at.loop-p-preserved-in-Aggregator c).In-Aggregator in
    seeking_skip _ _ _ c.loop-p.invariant c.if-x-at.false c.loop-p-test.true w.0 w.1

pub loop-p-smaller-in-Extractor : goal.loop-p-smaller-in-Extractor
loop-p-smaller-in-Extractor c = let w = extractor (goal.at.loop-p-smaller-in-Extractor c).In-Extractor in let n = next_after (X (goal.at.loop-p-smaller-in-Extractor c).After-item_at) (P (goal.at.loop-p-smaller-in-Extractor c).After-item_at) in let h = c.loop-p-test.true in omega arith

pub loop-p-preserved-in-Extractor : goal.loop-p-preserved-in-Extractor
loop-p-preserved-in-Extractor c = let w = extractor (goal.at.loop-p-preserved-in-Extractor c).In-Extractor in
    seeking_next _ _ _ c.loop-p.invariant c.if-x-at.false c.loop-p-test.true w.0 w.1

pub loop-p-smaller : goal.loop-p-smaller
loop-p-smaller c = let w = unit (goal.at.loop-p-smaller c).In-Unit in let n = next_after (X (goal.at.loop-p-smaller c).After-item_at) (P (goal.at.loop-p-smaller c).After-item_at) in let h = c.loop-p-test.true in omega arith

pub loop-p-preserved : goal.loop-p-preserved
loop-p-preserved c = let w = unit (goal.at.loop-p-preserved c).In-Unit in
    seeking_next _ _ _ c.loop-p.invariant c.if-x-at.false c.loop-p-test.true w.0 w.1

pub returns-then-p-at : goal.returns-then-p-at
returns-then-p-at c = let l = c.loop-p-test.false in
    let z = c.if-p-at.true in
    seeking_passed _ _ _ c.loop-p.invariant (omega arith)

pub returns : goal.returns
returns c = c.extractor_at.ensures ∙ seeking_here _ _ _ c.loop-p.invariant c.if-x-at.false c.if-p-at.false
