-- What stands at a place. Assumes nothing.
--
--   item_aggregator, -nothing, -extractor, -unit      by the unit's type, and where it ends
--   item_cut, item_end                                nothing where the length field ends past the sample; so at the end
--   aggregator_inside                                 an aggregator starts in the sample
--   by_item                                           cases
--   nothing_is, aggregator_is, extractor_is, unit_is  the other way: what stands there, by what the walk meets
use Prim.Native.Nat.{ℕ, ◌+◌, ◌≤◌, ◌<◌}
use mathlib.Core.Path.{◌≡◌}
use mathlib.Core.Bool.{true, false}
use native.Mathlib.Omega.{arith}
use borrow.Author.Tests.{lt-ltb, le-ltb, ltb-true, ltb-false, leb-true, leb-false, eqb-true, ne_eqb}
use lib.Dec.{leb}
use Rattle.words.specs.Tests.{◌<?◌}
use Rattle.words.proofs.Tests.{by_bool}
use Rattle.numbers.proofs.Laws.{L_some}
use Rattle.numbers.specs.declared.ByteOffset.{ByteOffset}
use Rattle.units.specs.declared.NalUnit.{NalUnit}
use Rattle.units.specs.Units.{Sample, L, end, type, next, aggregator_type, is_aggregator, is_extractor}
use Rattle.units.specs.Aggregators.{included_start}
use Rattle.units.specs.Steps.{place, unit_of}
use Rattle.units.proofs.Units.{type_past}
use Rattle.unit_steps.specs.Items.{item_at}
use Rattle.unit_steps.specs.declared.Item.TheVariants.{Nothing, Aggregator, Extractor, Unit}

module _ (x : Sample) (p : ℕ) where
  pub item_aggregator : is_aggregator x p ≡ true → item_at x p ≡ Aggregator (place (included_start x p))
  unfolding item_at
  item_aggregator a = rw a

  pub item_nothing : is_aggregator x p ≡ false → end x < next x p → item_at x p ≡ Nothing
  unfolding item_at
  item_nothing a h = rw (a, lt-ltb (end x) (next x p) h)

  -- past the end no type is an aggregator's
  none_past : end x ≤ p + L x → is_aggregator x p ≡ false
  none_past h = let t = type_past x p h in ne_eqb (type x p) aggregator_type (omega arith)

  pub aggregator_inside : is_aggregator x p ≡ true → p + L x < end x
  aggregator_inside a = by_bool (leb (end x) (p + L x))
      (λ t. let f = none_past (leb-true (end x) (p + L x) t) in let e = eqb-true (type x p) aggregator_type a in let z = type_past x p (leb-true (end x) (p + L x) t) in absurd (omega arith))
      (λ t. leb-false (end x) (p + L x) t)

  pub item_cut : end x < p + L x → item_at x p ≡ Nothing
  item_cut h = item_nothing (none_past (omega arith)) (omega arith)

  pub item_end : end x ≤ p → item_at x p ≡ Nothing
  item_end h = let l = L_some x.length_size in item_cut (omega arith)

  -- a unit that lies in the sample
  module _ (a : is_aggregator x p ≡ false) (i : next x p ≤ end x) where
    pub item_extractor : is_extractor x p ≡ true → item_at x p ≡ Extractor (place (next x p))
    unfolding item_at
    item_extractor t = rw (a, le-ltb (end x) (next x p) i, t)

    pub item_unit : is_extractor x p ≡ false → item_at x p ≡ Unit (unit_of x p)
    unfolding item_at
    item_unit t = rw (a, le-ltb (end x) (next x p) i, t)

  -- cases, with what the unit is
  by_all : {G : Type 0} →
      (is_aggregator x p ≡ false → end x < next x p → item_at x p ≡ Nothing → G) →
      (is_aggregator x p ≡ true → item_at x p ≡ Aggregator (place (included_start x p)) → G) →
      (is_aggregator x p ≡ false → is_extractor x p ≡ true → next x p ≤ end x → item_at x p ≡ Extractor (place (next x p)) → G) →
      (is_aggregator x p ≡ false → is_extractor x p ≡ false → next x p ≤ end x → item_at x p ≡ Unit (unit_of x p) → G) → G
  by_all none aggregator extractor unit = by_bool (is_aggregator x p)
      (λ a. aggregator a (item_aggregator a))
      (λ a. by_bool (end x <? next x p)
      (λ t. none a (ltb-true _ _ t) (item_nothing a (ltb-true _ _ t)))
      (λ t. let i = ltb-false (end x) (next x p) t in by_bool (is_extractor x p)
      (λ g. extractor a g i (item_extractor a i g))
      (λ g. unit a g i (item_unit a i g))))

  pub by_item : {G : Type 0} →
      (item_at x p ≡ Nothing → G) →
      (p + L x < end x → item_at x p ≡ Aggregator (place (included_start x p)) → G) →
      (next x p ≤ end x → item_at x p ≡ Extractor (place (next x p)) → G) →
      (next x p ≤ end x → item_at x p ≡ Unit (unit_of x p) → G) → G
  by_item none aggregator extractor unit = by_all
      (λ a h e. none e)
      (λ a e. aggregator (aggregator_inside a) e)
      (λ a g i e. extractor i e)
      (λ a g i e. unit i e)

  pub nothing_is : item_at x p ≡ Nothing → (is_aggregator x p ≡ false) × (end x < next x p)
  nothing_is m = by_all
      (λ a h e. (a, h))
      (λ a e. let z : ◌≡◌ {A = ℕ} 0 1 = cc in absurd (omega arith))
      (λ a g i e. let z : ◌≡◌ {A = ℕ} 0 1 = cc in absurd (omega arith))
      (λ a g i e. let z : ◌≡◌ {A = ℕ} 0 1 = cc in absurd (omega arith))

  pub aggregator_is : {q : ByteOffset} → item_at x p ≡ Aggregator q → (is_aggregator x p ≡ true) × (q.0 ≡ included_start x p)
  aggregator_is {q} m = by_all
      (λ a h e. let z : ◌≡◌ {A = ℕ} 0 1 = cc in absurd (omega arith))
      (λ a e. let s : q ≡ place (included_start x p) = cc in (a, rw s))
      (λ a g i e. let z : ◌≡◌ {A = ℕ} 0 1 = cc in absurd (omega arith))
      (λ a g i e. let z : ◌≡◌ {A = ℕ} 0 1 = cc in absurd (omega arith))

  pub extractor_is : {q : ByteOffset} → item_at x p ≡ Extractor q → (is_aggregator x p ≡ false) × (is_extractor x p ≡ true) × (q.0 ≡ next x p)
  extractor_is {q} m = by_all
      (λ a h e. let z : ◌≡◌ {A = ℕ} 0 1 = cc in absurd (omega arith))
      (λ a e. let z : ◌≡◌ {A = ℕ} 0 1 = cc in absurd (omega arith))
      (λ a g i e. let s : q ≡ place (next x p) = cc in (a, g, rw s))
      (λ a g i e. let z : ◌≡◌ {A = ℕ} 0 1 = cc in absurd (omega arith))

  pub unit_is : {u : NalUnit} → item_at x p ≡ Unit u → (is_aggregator x p ≡ false) × (is_extractor x p ≡ false) × (u ≡ unit_of x p)
  unit_is {u} m = by_all
      (λ a h e. let z : ◌≡◌ {A = ℕ} 0 1 = cc in absurd (omega arith))
      (λ a e. let z : ◌≡◌ {A = ℕ} 0 1 = cc in absurd (omega arith))
      (λ a g i e. let z : ◌≡◌ {A = ℕ} 0 1 = cc in absurd (omega arith))
      (λ a g i e. (a, g, cc))
