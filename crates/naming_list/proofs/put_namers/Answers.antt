-- The loop's invariant: entries of the units so far are counted, and written where there is room for all. Assumes nothing.
use native.Mathlib.Omega.{arith}
use mathlib.Core.Path.{◌≡◌, sym, ◌∙◌}
use Prim.Native.Nat.{ℕ, ◌≤◌}
use lib.ListN.{length}
use mathlib.Core.Bool.{true, false}
use Rattle.words.proofs.Tests.{by_bool}
use Rattle.units.specs.Units.{Sample, sample, next, is_aggregator, is_extractor}
use Rattle.units.specs.Aggregators.{included_start}
use Rattle.units.specs.Steps.{unit_of}
use Rattle.units.proofs.Units.{next_after}
use Rattle.unit_steps.proofs.Items.{aggregator_is, extractor_is, unit_is}
use Rattle.bundles.specs.Limits.{bundle_most}
use Rattle.tables.specs.Tables.{layout_in}
use Rattle.copies.proofs.Rest.{walking_never}
use Rattle.naming_list.specs.Steps.{names_at}
use Rattle.naming_list.proofs.Namers.{looking_start, looking_skip, looking_pass, looking_few, looking_take, looking_count, looking_written}
use Rattle.naming_list.proofs.put_namers.Goals as goal
use Rattle.naming_list.proofs.put_namers.Goals.{After-item_at, After-put_namer-found, In-Aggregator, In-Extractor, In-Unit}

abbrev X : After-item_at → Sample
X c = sample c.args.k c.args.x.now

abbrev P : After-item_at → ℕ
P c = c.loop-p.p

abbrev X_After_known_told : In-Aggregator → Sample
X_After_known_told c = sample c.args.k c.args.x.now

abbrev P_After_known_told : In-Aggregator → ℕ
P_After_known_told c = c.loop-p.p

-- it is an aggregator, an extractor, or another unit
aggregator : (c : In-Aggregator) → (is_aggregator (X_After_known_told c) (P_After_known_told c) ≡ true) × (c.in-Aggregator.included.0 ≡ included_start (X_After_known_told c) (P_After_known_told c))
aggregator c = aggregator_is _ _ (sym c.item_at.ensures ∙ c.in-Aggregator.is)

abbrev X_After_known_told2 : In-Extractor → Sample
X_After_known_told2 c = sample c.args.k c.args.x.now

abbrev P_After_known_told2 : In-Extractor → ℕ
P_After_known_told2 c = c.loop-p.p

extractor : (c : In-Extractor) → (is_aggregator (X_After_known_told2 c) (P_After_known_told2 c) ≡ false) × (is_extractor (X_After_known_told2 c) (P_After_known_told2 c) ≡ true) × (c.in-Extractor.next.0 ≡ next (X_After_known_told2 c) (P_After_known_told2 c))
extractor c = extractor_is _ _ (sym c.item_at.ensures ∙ c.in-Extractor.is)

abbrev X_After_known_told3 : In-Unit → Sample
X_After_known_told3 c = sample c.args.k c.args.x.now

abbrev P_After_known_told3 : In-Unit → ℕ
P_After_known_told3 c = c.loop-p.p

unit : (c : In-Unit) → (is_aggregator (X_After_known_told3 c) (P_After_known_told3 c) ≡ false) × (is_extractor (X_After_known_told3 c) (P_After_known_told3 c) ≡ false) × (c.in-Unit.u ≡ unit_of (X_After_known_told3 c) (P_After_known_told3 c))
unit c = unit_is _ _ (sym c.item_at.ensures ∙ c.in-Unit.is)

-- the numbers are small
few : (c : After-item_at) → (c.loop-p.count ≤ length c.args.x.now) × (length c.args.x.now ≤ bundle_most)
few c = (looking_few _ _ _ _ _ _ _ _ _ c.loop-p.invariant, c.requires.1)

abbrev X_After_put_namer : After-put_namer-found → Sample
X_After_put_namer c = sample c.args.k c.args.x.now

abbrev P_After_put_namer : After-put_namer-found → ℕ
P_After_put_namer c = c.loop-p.p

-- one more, or none
one : (c : After-put_namer-found) → c.put_namer-found.result ≤ 1
one c =
    let g = c.args in
    by_bool (names_at (layout_in g.t.now) g.s.0 g.n.0 (X_After_put_namer c) (P_After_put_namer c))
    (λ q. rw (c.put_namer-found.ensures.0, q) (omega arith))
    (λ q. rw (c.put_namer-found.ensures.0, q) (omega arith))

pub loop-p-init : goal.loop-p-init
loop-p-init c = looking_start _ _ _ _ _ _ c.requires.0

pub shape_of-out-in-Nothing : goal.shape_of-out-in-Nothing
shape_of-out-in-Nothing c = c.loop-p.invariant.size

pub returns-in-Nothing : goal.returns-in-Nothing
returns-in-Nothing c = walking_never _ _ _ c.loop-p.invariant.walking c.loop-p-test.true (sym c.item_at.ensures ∙ c.in-Nothing.is)

pub loop-p-smaller-in-Aggregator : goal.loop-p-smaller-in-Aggregator
loop-p-smaller-in-Aggregator c = let w = aggregator (goal.at.loop-p-smaller-in-Aggregator c).In-Aggregator in omega arith

pub loop-p-preserved-in-Aggregator : goal.loop-p-preserved-in-Aggregator
loop-p-preserved-in-Aggregator c = rw (aggregator (goal.at.loop-p-preserved-in-Aggregator c).In-Aggregator).1 (looking_skip _ _ _ _ _ _ _ _ _ c.loop-p.invariant c.loop-p-test.true (aggregator (goal.at.loop-p-preserved-in-Aggregator c).In-Aggregator).0)

pub overflow_mul-count : goal.overflow_mul-count
overflow_mul-count c = let f = few (goal.at.overflow_mul-count c).After-item_at in omega arith

pub overflow_add-at : goal.overflow_add-at
overflow_add-at c = let f = few (goal.at.overflow_add-at c).After-item_at in let h = c.requires.2 in omega arith

pub put_namer-found-requires : goal.put_namer-found-requires
put_namer-found-requires c = let f = few (goal.at.put_namer-found-requires c).After-item_at in let h = c.requires.2 in omega arith

pub overflow_add-count : goal.overflow_add-count
overflow_add-count c = let f = few (goal.at.overflow_add-count c).After-item_at in let o = one (goal.at.overflow_add-count c).After-put_namer-found in omega arith

pub loop-p-smaller-in-Extractor : goal.loop-p-smaller-in-Extractor
loop-p-smaller-in-Extractor c = let w = extractor (goal.at.loop-p-smaller-in-Extractor c).In-Extractor in let n = next_after (X (goal.at.loop-p-smaller-in-Extractor c).After-item_at) (P (goal.at.loop-p-smaller-in-Extractor c).After-item_at) in omega arith

pub loop-p-preserved-in-Extractor : goal.loop-p-preserved-in-Extractor
loop-p-preserved-in-Extractor c = let w = extractor (goal.at.loop-p-preserved-in-Extractor c).In-Extractor in rw (w.2, c.put_namer-found.ensures.1) (looking_take _ _ _ _ _ _ _ _ _ c.loop-p.invariant c.loop-p-test.true w.0 c.put_namer-found.ensures.0)

pub loop-p-smaller : goal.loop-p-smaller
loop-p-smaller c = let n = next_after (X (goal.at.loop-p-smaller c).After-item_at) (P (goal.at.loop-p-smaller c).After-item_at) in rw (unit (goal.at.loop-p-smaller c).In-Unit).2 (omega arith)

pub loop-p-preserved : goal.loop-p-preserved
loop-p-preserved c = let w = unit (goal.at.loop-p-preserved c).In-Unit in rw w.2 (looking_pass _ _ _ _ _ _ _ _ _ c.loop-p.invariant c.loop-p-test.true w.0 w.1)

pub shape_of-out : goal.shape_of-out
shape_of-out c = c.loop-p.invariant.size

pub returns : goal.returns
returns c = (looking_count _ _ _ _ _ _ _ _ _ c.loop-p.invariant c.loop-p-test.false, looking_written _ _ _ _ _ _ _ _ _ c.loop-p.invariant c.loop-p-test.false)
