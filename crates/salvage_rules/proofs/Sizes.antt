-- How long the new sample and the list are at most. Assumes nothing.
--
--   new_most         the new sample is no longer than the old one
--   changes_most     the list has at most 4 bytes more than the old sample
--   unit_changes     the same of the units of a sample whose top-level units are whole
use Prim.Native.Nat.{ℕ, ◌+◌, ◌*◌, ◌≤◌, ◌<◌}
use mathlib.Core.Path.{◌≡◌, refl, ap}
use mathlib.Core.List.{List, [], ◌∷◌, Memᴰ}
use mathlib.Core.Bool.{true, false}
use mathlib.Core.Logic.{◌⊎◌, inl, inr, ⊎_elim}
use native.Mathlib.Omega.{arith}
use native.Mathlib.Nat.{mul-add}
use borrow.Author.Tests.{ltb-true, eqb-true}
use lib.ListN.{length, length-append}
use Rattle.words.specs.Tests.{◌<?◌}
use Rattle.words.specs.Lists.{each, ◌∈◌}
use Rattle.words.specs.Refusals.{ok}
use Rattle.words.proofs.Tests.{by_bool, true_false}
use Rattle.numbers.proofs.Laws.{L_some}
use Rattle.units.specs.Units.{Sample, end, size, type, extractor_type, is_aggregator, is_extractor, top_units}
use Rattle.units.specs.Rules.{TopUnitsWhole}
use Rattle.units.proofs.Units.{whole_aggregator}
use Rattle.samples.specs.Check.{inside_verdict}
use Rattle.salvage_rules.specs.declared.Fate.TheVariants.{Kept, Dropped, Zeroed}
use Rattle.salvage_rules.specs.Salvage.{first_fault, cut, whole_units, is_dropped, unit_bytes, new_bytes, new_content, change_at, salvaged, tail_drop, changes, change_size}
use Rattle.salvage_rules.proofs.Units.{by_fate, new_by, change_by, inside_ok, dropped_not, unit_length, zeroed_length}
use Rattle.salvage_rules.proofs.Cut.{fault_most, cut_end, cut_wholes}
use Rattle.salvage_rules.proofs.Changes.{units_join}
use Rattle.salvage_rules.proofs.Reasons.{loses_aggregator}

each_most : {A B C : Type 0} (k : ℕ) (f : A → List B) (g : A → List C) (xs : List A) → ((x : A) → x ∈ xs → k * length (f x) ≤ length (g x)) → k * length (each f xs) ≤ length (each g xs)
unfolding each
each_most k f g [] h = omega arith
each_most k f g (x ∷ xs) h =
    let a = h x (Memᴰ.head refl) in
    let b = each_most k f g xs (λ y m. h y (Memᴰ.tail m)) in
    let d = mul-add k (length (f x)) (length (each f xs)) in
    rw (length-append (f x) (each f xs), length-append (g x) (each g xs), d) (omega arith)

module _ (y : Sample) (ws : TopUnitsWhole y) where
  left_most : (p : ℕ) → p ∈ top_units y → length (new_bytes y p) ≤ length (unit_bytes y p)
  left_most p m = by_fate y p
      (λ d e. rw (new_by y p Dropped e) (omega arith))
      (λ d l e. let z = zeroed_length y p (ws p m) (inside_ok y p d) (loses_aggregator y p l) in rw (new_by y p Zeroed e) (omega arith))
      (λ d l e. rw (new_by y p Kept e) (omega arith))

  pub unit_left : length (new_content y) ≤ end y
  unfolding new_content
  unit_left =
      let m = each_most 1 (new_bytes y) (unit_bytes y) (top_units y) (λ p m. let a = left_most p m in omega arith) in
      let j = ap length (units_join y ws) in
      omega arith

  -- a unit of which something is listed is an aggregator or an extractor, and so has a header
  header_there : (p : ℕ) → p ∈ top_units y → (is_aggregator y p ≡ true) ⊎ (is_extractor y p ≡ true) → 4 ≤ size y p
  header_there p m (inl t) = let g = whole_aggregator y (end y) p (ws p m) t in omega arith
  header_there p m (inr t) = let l = (ws p m).least in rw (eqb-true (type y p) extractor_type t) at l

  dropped_type : (p : ℕ) → is_dropped y p ≡ true → (is_aggregator y p ≡ true) ⊎ (is_extractor y p ≡ true)
  dropped_type p d = by_bool (is_aggregator y p)
      (λ a. inl a)
      (λ a. by_bool (is_extractor y p)
      (λ t. inr t)
      (λ t. true_false _ d (dropped_not y p (spared a t))))
    where
      spared : is_aggregator y p ≡ false → is_extractor y p ≡ false → inside_verdict y p ≡ ok tt
      spared a t = unfold inside_verdict in rw (a, t)

  own_changes : (p : ℕ) → p ∈ top_units y → change_size * length (change_at y p) ≤ length (unit_bytes y p)
  own_changes p m =
      let n = unit_length y p (ws p m) in
      let l = L_some y.length_size in
      by_fate y p
      (λ d e. let h = header_there p m (dropped_type p d) in rw (change_by y p Dropped e) (omega arith))
      (λ d c e. let h = header_there p m (inl (loses_aggregator y p c)) in rw (change_by y p Zeroed e) (omega arith))
      (λ d c e. rw (change_by y p Kept e) (omega arith))

  pub unit_changes : change_size * length (each (change_at y) (top_units y)) ≤ end y
  unit_changes =
      let m = each_most change_size (change_at y) (unit_bytes y) (top_units y) own_changes in
      let j = ap length (units_join y ws) in
      omega arith

module _ (x : Sample) where
  pub new_most : length (salvaged x).content ≤ end x
  new_most = let a = unit_left (cut x) (cut_wholes x) in let b = cut_end x in let c = fault_most x in omega arith

  tail_most : (length (tail_drop x) ≡ 0) ⊎ ((length (tail_drop x) ≡ 1) × (first_fault x < end x))
  unfolding tail_drop
  tail_most = by_bool (first_fault x <? end x)
      (λ t. inr (rw t, ltb-true _ _ t))
      (λ t. inl (rw t))

  pub changes_most : change_size * length (changes x) ≤ end x + 4
  unfolding changes
  changes_most =
      let a = unit_changes (cut x) (cut_wholes x) in
      let b = cut_end x in
      let c = fault_most x in
      let n = length (each (change_at (cut x)) (whole_units x)) in
      let d = mul-add change_size n (length (tail_drop x)) in
      rw (length-append (each (change_at (cut x)) (whole_units x)) (tail_drop x), d) (⊎_elim
      (λ z. rw z (omega arith))
      (λ z. rw z.0 (omega (arith, z.1)))
      tail_most)
