-- Why each change is listed, and what it is. Assumes nothing.
--
--   Listed, listed_from    why a change is listed: for one of three reasons
--   in_units_lem, in_tail  and back: a change of a unit, and that of the tail
--   Uncovered, uncovered   an aggregator that loses its additional_bytes has a 21, or covers a unit that is dropped
--   zeroed_some            and they were not 0 before
use Prim.Native.Nat.{ℕ, ◌≤◌, ◌<◌}
use mathlib.Core.Path.{◌≡◌, refl, ap, sym, ◌∙◌, subst}
use mathlib.Core.List.Memᴰ
use mathlib.Core.List.{Memᴰ}
use mathlib.Core.Logic.{◌⊎◌, inl, inr, ⊎_elim}
use mathlib.Core.Bool.{true, ◌&&◌}
use native.Mathlib.Omega.{arith}
use borrow.Author.Tests.{leb-true, ltb-true, ltb-false, lt-ltb, eq-eqb}
use Rattle.words.specs.Tests.{◌<?◌, ◌≤?◌}
use Rattle.words.specs.RefusalNumbers.{bad_additional_bytes}
use Rattle.words.specs.Refusals.{refused}
use Rattle.words.specs.Lists.{some, each, ◌∈◌}
use Rattle.words.proofs.Tests.{by_bool, true_false, and_both}
use Rattle.words.proofs.Refusals.{by_verdict}
use Rattle.words.proofs.Lists.{each_mem, each_from, keep_from, some_from, some_none}
use Rattle.units.specs.Units.{Sample, end, next, is_aggregator, top_units, border, top_between}
use Rattle.units.specs.Aggregators.{additional_bytes, cover_end, cover_fault}
use Rattle.units.specs.Rules.{TopUnitsWhole}
use Rattle.units.proofs.Units.{whole_end}
use Rattle.units.proofs.Walks.{reached_top, reached_next, border_here}
use Rattle.units.proofs.Covers.{cover_good}
use Rattle.samples.specs.Check.{top_verdict}
use Rattle.salvage_rules.specs.declared.Fate.TheVariants.{Kept, Dropped, Zeroed}
use Rattle.salvage_rules.specs.Salvage.{Change, change, a_drop, a_zeroing, fate, first_fault, cut, whole_units, is_dropped, loses_cover, change_at, tail_drop, changes}
use Rattle.salvage_rules.proofs.Units.{by_fate, fate_dropped, change_by, cover_stays, cover_other}
use Rattle.salvage_rules.proofs.Cut.{fault_some, fault_none}

-- 21, in a sample that ends at the first top-level fault; or a unit is dropped that it covers
pub data Uncovered (y : Sample) (p : ℕ) : Type 0 where
  bad : cover_fault y p ≡ bad_additional_bytes → Uncovered y p
  lost : (q : ℕ) → q ∈ top_units y → next y p ≤ q → q < cover_end y p → fate y q ≡ Dropped → Uncovered y p

pub data Listed (x : Sample) : Change → Type 0 where
  unit : (p : ℕ) → p ∈ whole_units x → fate (cut x) p ≡ Dropped → Listed x (change a_drop p)
  cover : (p : ℕ) → p ∈ whole_units x → fate (cut x) p ≡ Zeroed → Listed x (change a_zeroing p)
  tail : (n : ℕ) → top_verdict x ≡ refused n (first_fault x) → Listed x (change a_drop (first_fault x))

-- an aggregator that loses its additional_bytes
module _ (y : Sample) (p : ℕ) (l : loses_cover y p ≡ true) where
  pub loses_aggregator : is_aggregator y p ≡ true
  loses_aggregator = by_bool (is_aggregator y p) (λ a. a) (λ a. true_false _ l (cover_other y p a))

  lost_by : cover_fault y p ≡ 0 → Uncovered y p
  unfolding loses_cover
  lost_by z =
      let s = some_from (is_dropped y) (top_between y (next y p) (cover_end y p)) (rw (loses_aggregator, eq-eqb (cover_fault y p) 0 z) at l) in
      let k = between s.0 s.1 in
      let i = and_both (next y p ≤? s.0) (s.0 <? cover_end y p) k.1 in
      Uncovered.lost s.0 k.0 (leb-true _ _ i.0) (ltb-true _ _ i.1) (fate_dropped y s.0 s.2)
    where
      between : (q : ℕ) → q ∈ top_between y (next y p) (cover_end y p) → (q ∈ top_units y) × (((next y p ≤? q) && (q <? cover_end y p)) ≡ true)
      between q k = unfold top_between in keep_from _ (top_units y) k

  pub uncovered : Uncovered y p
  uncovered = ⊎_elim (λ z. lost_by z) (λ e. Uncovered.bad e) cover_cases
    where
      cover_cases : (cover_fault y p ≡ 0) ⊎ (cover_fault y p ≡ bad_additional_bytes)
      cover_cases = unfold cover_fault in by_bool (border y (cover_end y p))
          (λ b. by_bool (some (is_aggregator y) (top_between y (next y p) (cover_end y p))) (λ s. inr (rw (b, s))) (λ s. inl (rw (b, s))))
          (λ b. inr (rw b))

  -- zero covers nothing
  pub zeroed_some : TopUnitsWhole y → p ∈ top_units y → 0 < additional_bytes y p
  zeroed_some ws m = by_bool (0 <? additional_bytes y p)
      (λ t. ltb-true 0 (additional_bytes y p) t)
      (λ t. let z = ltb-false 0 (additional_bytes y p) t in
      let i = whole_end y (end y) p (ws p m) in
      let e : next y p ≡ cover_end y p = omega arith in
      let b : border y (cover_end y p) ≡ true = subst (λ (k : ℕ). border y k ≡ true) e (border_here y (next y p) (reached_next y p i.0 (reached_top y p m)) i.1) in
      true_false _ l (cover_stays y p (cover_good y p b (λ q k a c. absurd (omega arith)))
      (some_none (is_dropped y) (top_between y (next y p) (cover_end y p)) (λ q k. let o = inside q k in absurd (omega arith)))))
    where
      inside : (q : ℕ) → q ∈ top_between y (next y p) (cover_end y p) → (next y p ≤ q) × (q < cover_end y p)
      inside q k = unfold top_between in
          let f = keep_from (λ r. (next y p ≤? r) && (r <? cover_end y p)) (top_units y) k in
          let a = and_both (next y p ≤? q) (q <? cover_end y p) f.1 in
          (leb-true _ _ a.0, ltb-true _ _ a.1)

module _ (x : Sample) where
  unit_listed : (p : ℕ) → p ∈ whole_units x → (c : Change) → c ∈ change_at (cut x) p → Listed x c
  unit_listed p m c k = by_fate (cut x) p
      (λ d e. subst (Listed x) (sym (Memᴰ.eq_of_singleton (rw (change_by (cut x) p Dropped e) at k))) (Listed.unit p m e))
      (λ d l e. subst (Listed x) (sym (Memᴰ.eq_of_singleton (rw (change_by (cut x) p Zeroed e) at k))) (Listed.cover p m e))
      (λ d l e. absurd (Memᴰ.not-nil (rw (change_by (cut x) p Kept e) at k)))

  tail_listed : (c : Change) → c ∈ tail_drop x → Listed x c
  unfolding tail_drop
  tail_listed c k = by_bool (first_fault x <? end x)
      (λ t. subst (Listed x) (sym (Memᴰ.eq_of_singleton (rw t at k))) (by_verdict (top_verdict x)
      (λ n q v. Listed.tail n (v ∙ ap (refused n) (sym (fault_some x n q v).0)))
      (λ v. let e = fault_none x v in let l = ltb-true (first_fault x) (end x) t in absurd (omega arith))))
      (λ t. absurd (Memᴰ.not-nil (rw t at k)))

  pub listed_from : (c : Change) → c ∈ changes x → Listed x c
  unfolding changes
  listed_from c m = ⊎_elim
      (λ k. let f = each_from (change_at (cut x)) (whole_units x) k in unit_listed f.0 f.1 c f.2)
      (λ k. tail_listed c k)
      (Memᴰ.append_cases (each (change_at (cut x)) (whole_units x)) m)

  pub in_units_lem : (p : ℕ) (c : Change) → p ∈ whole_units x → c ∈ change_at (cut x) p → c ∈ changes x
  unfolding changes
  in_units_lem p c m k = Memᴰ.append_left (tail_drop x) (each_mem (change_at (cut x)) (whole_units x) m k)

  pub in_tail : (n : ℕ) → top_verdict x ≡ refused n (first_fault x) → change a_drop (first_fault x) ∈ changes x
  unfolding changes tail_drop
  in_tail n v = let l = (fault_some x n (first_fault x) v).1 in
      Memᴰ.append_right (each (change_at (cut x)) (whole_units x)) (rw (lt-ltb (first_fault x) (end x) l) (Memᴰ.head refl))
