-- The list says exactly where bytes are missing or changed. Assumes nothing.
--
--   listed_places    a listed place is that of a top-level unit before the first top-level fault, or that fault
--   listed_where     a unit before it is listed exactly if what is left of it is not what it was
use Prim.Native.Nat.{ℕ, ◌<◌}
use mathlib.Core.Path.{◌≡◌, refl, ap, sym, ◌∙◌, subst}
use mathlib.Core.List.Memᴰ
use mathlib.Core.List.{List, []}
use mathlib.Core.Logic.{◌⊎◌, inl, inr, ◌↔◌}
use native.Mathlib.Omega.{arith}
use lib.ListN.{length}
use Rattle.words.specs.Lists.{◌∈◌}
use Rattle.units.specs.Units.{Sample, end}
use Rattle.units.specs.Aggregators.{additional_bytes}
use Rattle.units.proofs.Units.{whole_aggregator}
use Rattle.units.proofs.Walks.{in_top}
use Rattle.salvage_rules.specs.declared.Fate.TheVariants.{Dropped, Zeroed}
use Rattle.salvage_rules.specs.Salvage.{holding, Change, change, a_drop, a_zeroing, first_fault, cut, whole_units, fate, unit_bytes, zeroed_bytes, left_by, changes}
use Rattle.salvage_rules.proofs.Placed.{additional_here}
use Rattle.salvage_rules.proofs.Units.{by_fate, zeroed_from, change_by, inside_ok, unit_there, unit_length, zeroed_none}
use Rattle.salvage_rules.proofs.Cut.{fault_some, cut_end, cut_wholes, cut_unit}
use Rattle.salvage_rules.proofs.Reasons.{Listed, listed_from, in_units_lem, loses_aggregator, zeroed_some}
use Rattle.salvage_rules.proofs.Promises.{zeroed_cut}

module _ (x : Sample) where
  -- by the reason
  why : (c : Change) → Listed x c → ((c.place ∈ whole_units x) × ((fate (cut x) c.place ≡ Dropped) ⊎ (fate (cut x) c.place ≡ Zeroed))) ⊎ ((c.place ≡ first_fault x) × (first_fault x < end x))
  why c (Listed.unit p m e) = inl (m, inl e)
  why c (Listed.cover p m e) = inl (m, inr e)
  why c (Listed.tail n v) = inr (refl, (fault_some x n (first_fault x) v).1)

  pub listed_places : (c : Change) → c ∈ changes x → (c.place ∈ whole_units x) ⊎ ((c.place ≡ first_fault x) × (first_fault x < end x))
  listed_places c m = place (why c (listed_from x c m))
    where
      place : ((c.place ∈ whole_units x) × ((fate (cut x) c.place ≡ Dropped) ⊎ (fate (cut x) c.place ≡ Zeroed))) ⊎ ((c.place ≡ first_fault x) × (first_fault x < end x)) → (c.place ∈ whole_units x) ⊎ ((c.place ≡ first_fault x) × (first_fault x < end x))
      place (inl w) = inl w.0
      place (inr w) = inr w

  module _ (p : ℕ) (m : p ∈ whole_units x) where
    -- a unit has bytes
    not_nothing : ◌≡◌ {A = List ℕ} [] (unit_bytes x p) → ⊥
    not_nothing e =
        let n = unit_length (cut x) p (cut_wholes x p m) in
        let c = ap length (cut_unit x p m) in
        let z = ap length e in
        let s = (cut_wholes x p m).some in
        omega arith

    -- and additional_bytes that become 0 were not 0
    not_zeroed : fate (cut x) p ≡ Zeroed → zeroed_bytes x p ≡ unit_bytes x p → ⊥
    not_zeroed f e =
        let l = zeroed_from (cut x) p f in
        let t = loses_aggregator (cut x) p l.1 in
        let w = cut_wholes x p m in
        let y = cut x in
        let s : 0 < additional_bytes (cut x) p = zeroed_some (cut x) p l.1 (cut_wholes x) m in
        let z : additional_bytes (holding (cut x) (zeroed_bytes (cut x) p)) 0 ≡ 0 = zeroed_none (cut x) p w (inside_ok (cut x) p l.0) t in
        let q : zeroed_bytes (cut x) p ≡ unit_bytes (cut x) p = zeroed_cut x p m f ∙ e ∙ sym (cut_unit x p m) in
        let n = unit_length (cut x) p w in
        let g = whole_aggregator (cut x) (end (cut x)) p w t in
        let a : additional_bytes (cut x) p ≡ additional_bytes (holding (cut x) (unit_bytes (cut x) p)) 0 = additional_here (cut x) p (unit_bytes (cut x) p) _ (unit_there (cut x) p) (omega arith) in
        let k : additional_bytes (holding (cut x) (unit_bytes (cut x) p)) 0 ≡ 0 = subst (λ (b : List ℕ). additional_bytes (holding (cut x) b) 0 ≡ 0) q z in
        omega arith

    differs : (fate (cut x) p ≡ Dropped) ⊎ (fate (cut x) p ≡ Zeroed) → left_by x (fate (cut x) p) p ≡ unit_bytes x p → ⊥
    differs (inl f) e = not_nothing (rw f at e)
    differs (inr f) e = not_zeroed f (rw f at e)

    pub listed_where : ((w : ℕ) × (change w p ∈ changes x)) ↔ (left_by x (fate (cut x) p) p ≡ unit_bytes x p → ⊥)
    listed_where = (λ l. reason (why (change l.0 p) (listed_from x (change l.0 p) l.1)), back)
      where
        reason : ((p ∈ whole_units x) × ((fate (cut x) p ≡ Dropped) ⊎ (fate (cut x) p ≡ Zeroed))) ⊎ ((p ≡ first_fault x) × (first_fault x < end x)) → left_by x (fate (cut x) p) p ≡ unit_bytes x p → ⊥
        reason (inl w) = differs w.1
        reason (inr w) = let i = in_top (cut x) p m in let n = cut_end x in let e = w.0 in absurd (omega arith)

        back : (left_by x (fate (cut x) p) p ≡ unit_bytes x p → ⊥) → (w : ℕ) × (change w p ∈ changes x)
        back h = by_fate (cut x) p
            (λ d e. (a_drop, in_units_lem x p (change a_drop p) m (rw (change_by (cut x) p Dropped e) (Memᴰ.head refl))))
            (λ d l e. (a_zeroing, in_units_lem x p (change a_zeroing p) m (rw (change_by (cut x) p Zeroed e) (Memᴰ.head refl))))
            (λ d l e. absurd (h (rw e)))
