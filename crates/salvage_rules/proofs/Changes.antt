-- What the list of changes says. Assumes nothing.
--
--   units_join                    the units of a sample whose top-level units are whole are its bytes
--   untouched                     a sample without a change
--   listed-here                   what the list says of a unit is what is listed of it
--   listed_drop, listed_zeroing   a drop of a unit is listed exactly if it is dropped; a zeroing of one that is kept exactly if it loses its cover
--   listed_tail                   a drop at the first top-level fault is listed exactly if there is one
--   changes_rise, changes_inside  places rise, and lie in the old sample
use Prim.Native.Nat.{ℕ, zero, suc, ◌-◌, ◌≤◌, ◌<◌}
use mathlib.Core.Path.{◌≡◌, refl, ap, ap₂, sym, ◌∙◌, subst}
use mathlib.Core.List.Memᴰ
use mathlib.Core.List.{List, [], ◌∷◌, ◌++◌, Memᴰ}
use mathlib.Core.Logic.{⊎_elim}
use mathlib.Core.Bool.{Bool, true, false, not, ◌&&◌, ◌||◌, false-or}
use native.Mathlib.Omega.{arith}
use borrow.Author.Tests.{leb-true, leb-false, eqb-true, eq-eqb, ne_eqb, ltb-true}
use lib.Dec.{leb}
use lib.ListN.{length, drop}
use lib.Seq.{drop-length}
use Rattle.words.specs.Tests.{◌≡?◌, ◌<?◌}
use Rattle.words.specs.Lists.{some, each}
use Rattle.words.proofs.Tests.{by_bool, and_both, bool_same}
use Rattle.words.proofs.Lists.{some_append, some_mem, some_none, some_from, each_mem, each_from, Rising, rising_append, rising_each}
use Rattle.units.specs.Units.{Sample, end, next, places, top_units}
use Rattle.units.specs.Rules.{Whole, TopUnitsWhole}
use Rattle.units.proofs.Units.{next_after, whole_end}
use Rattle.units.proofs.Walks.{places_end, places_step, in_top, Before, top_rise}
use Rattle.salvage_rules.specs.Salvage.{Change, change, a_drop, a_zeroing, first_fault, cut, is_dropped, loses_cover, fate, unit_bytes, change_at, tail_drop, changes, listed}
use Rattle.salvage_rules.proofs.Units.{unit_there}
use Rattle.salvage_rules.proofs.Cut.{fault_most, cut_end}

pub each_nothing : {A B : Type 0} (f : A → List B) (xs : List A) → ((x : A) → Memᴰ x xs → f x ≡ []) → each f xs ≡ []
unfolding each
each_nothing f [] h = refl
each_nothing f (x ∷ xs) h = rw (h x (Memᴰ.head refl)) (each_nothing f xs (λ y m. h y (Memᴰ.tail m)))

pub nothing_both : {A : Type 0} (xs ys : List A) → xs ++ ys ≡ [] → (xs ≡ []) × (ys ≡ [])
nothing_both [] ys e = (refl, e)
nothing_both (x ∷ xs) ys e = let n : suc (length (xs ++ ys)) ≡ 0 = ap length e in absurd (omega arith)

pub nothing_each : {A B : Type 0} (f : A → List B) (xs : List A) → each f xs ≡ [] → (x : A) → Memᴰ x xs → f x ≡ []
unfolding each
nothing_each f [] e x m = absurd (Memᴰ.not-nil m)
nothing_each f (a ∷ xs) e x m = let below = nothing_each f xs in
    let b = nothing_both (f a) (each f xs) e in
    ⊎_elim (λ z. ap f z ∙ b.0) (λ k. below b.1 x k) (Memᴰ.cases_cons m)

module _ (y : Sample) where
  join_by : (k a : ℕ) → end y - a ≤ k → a ≤ end y → ((q : ℕ) → Memᴰ q (places y a (end y)) → Whole y (end y) q) → each (unit_bytes y) (places y a (end y)) ≡ drop a y.content
  unfolding each
  join_by zero a g h w = let e : a ≡ end y = omega arith in rw (places_end y a (end y) (omega arith), e) (sym (drop-length y.content))
  join_by (suc k) a g h w = by_bool (leb (end y) a)
      (λ t. let l = leb-true (end y) a t in let e : a ≡ end y = omega arith in rw (places_end y a (end y) l, e) (sym (drop-length y.content)))
      (λ t. let l = leb-false (end y) a t in
      let n = next_after y a in
      let i = whole_end y (end y) a (w a (rw (places_step y a (end y) l) (Memᴰ.head refl))) in
      let rest = join_by k (next y a) (omega arith) i.1 (λ q m. w q (rw (places_step y a (end y) l) (Memᴰ.tail m))) in
      rw (places_step y a (end y) l) (ap (λ (b : List ℕ). unit_bytes y a ++ b) rest ∙ sym (unit_there y a)))

  pub units_join : TopUnitsWhole y → each (unit_bytes y) (top_units y) ≡ y.content
  unfolding top_units
  units_join w = join_by (end y) 0 (omega arith) (omega arith) w

  -- what is listed of the unit at p
  pub change_drop : (p : ℕ) → is_dropped y p ≡ true → change_at y p ≡ change a_drop p ∷ []
  unfolding change_at fate
  change_drop p h = rw h

  pub change_zeroing : (p : ℕ) → is_dropped y p ≡ false → loses_cover y p ≡ true → change_at y p ≡ change a_zeroing p ∷ []
  unfolding change_at fate
  change_zeroing p h g = rw (h, g)

  pub change_none : (p : ℕ) → is_dropped y p ≡ false → loses_cover y p ≡ false → change_at y p ≡ []
  unfolding change_at fate
  change_none p h g = rw (h, g)

  -- a unit of which nothing is listed
  pub none_change : (p : ℕ) → change_at y p ≡ [] → (is_dropped y p ≡ false) × (loses_cover y p ≡ false)
  none_change p e = by_bool (is_dropped y p)
      (λ d. let n : 1 ≡ 0 = ap length (sym (change_drop p d) ∙ e) in absurd (omega arith))
      (λ d. by_bool (loses_cover y p)
      (λ c. let n : 1 ≡ 0 = ap length (sym (change_zeroing p d c) ∙ e) in absurd (omega arith))
      (λ c. (d, c)))

  at_place : (p : ℕ) (c : Change) → Memᴰ c (change_at y p) → c.place ≡ p
  at_place p c m = by_bool (is_dropped y p)
      (λ d. ap (λ (z : Change). z.place) (Memᴰ.eq_of_singleton (rw (change_drop p d) at m)))
      (λ d. by_bool (loses_cover y p)
      (λ l. ap (λ (z : Change). z.place) (Memᴰ.eq_of_singleton (rw (change_zeroing p d l) at m)))
      (λ l. absurd (Memᴰ.not-nil (rw (change_none p d l) at m))))

  own_rise : (p : ℕ) → Rising (λ (c d : Change). c.place < d.place) (change_at y p)
  own_rise p = by_bool (is_dropped y p)
      (λ d. rw (change_drop p d) ((λ c m. absurd (Memᴰ.not-nil m)), tt))
      (λ d. by_bool (loses_cover y p)
      (λ l. rw (change_zeroing p d l) ((λ c m. absurd (Memᴰ.not-nil m)), tt))
      (λ l. rw (change_none p d l) tt))

  -- what the list says of a unit is what is listed of it
  listed_own : (w p : ℕ) → Memᴰ p (top_units y) → listed w p (each (change_at y) (top_units y)) ≡ listed w p (change_at y p)
  unfolding listed
  listed_own w p m = bool_same _ _
      (λ h. let s = some_from (λ (c : Change). (c.what ≡? w) && (c.place ≡? p)) (each (change_at y) (top_units y)) h in
      let f = each_from (change_at y) (top_units y) s.1 in
      let e : f.0 ≡ p = sym (at_place f.0 s.0 f.2) ∙ eqb-true _ _ (and_both (s.0.what ≡? w) (s.0.place ≡? p) s.2).1 in
      some_mem (λ (c : Change). (c.what ≡? w) && (c.place ≡? p)) (change_at y p) (subst (λ (z : ℕ). Memᴰ s.0 (change_at y z)) e f.2) s.2)
      (λ h. let s = some_from (λ (c : Change). (c.what ≡? w) && (c.place ≡? p)) (change_at y p) h in
      some_mem (λ (c : Change). (c.what ≡? w) && (c.place ≡? p)) (each (change_at y) (top_units y)) (each_mem (change_at y) (top_units y) m s.1) s.2)

  own_drop : (p : ℕ) → listed a_drop p (change_at y p) ≡ is_dropped y p
  unfolding listed some
  own_drop p = by_bool (is_dropped y p)
      (λ d. rw (change_drop p d, d, eq-eqb p p refl))
      (λ d. by_bool (loses_cover y p)
      (λ l. rw (change_zeroing p d l, d))
      (λ l. rw (change_none p d l, d)))

  own_zeroing : (p : ℕ) → listed a_zeroing p (change_at y p) ≡ (not (is_dropped y p) && loses_cover y p)
  unfolding listed some
  own_zeroing p = by_bool (is_dropped y p)
      (λ d. rw (change_drop p d, d))
      (λ d. by_bool (loses_cover y p)
      (λ l. rw (change_zeroing p d l, d, l, eq-eqb p p refl))
      (λ l. rw (change_none p d l, d, l)))

module _ (x : Sample) where
  abbrev in_units : List Change
  in_units = each (change_at (cut x)) (top_units (cut x))

  in_units_lem : (c : Change) → Memᴰ c in_units → c.place < first_fault x
  in_units_lem c m =
      let f = each_from (change_at (cut x)) (top_units (cut x)) m in
      let e = at_place (cut x) f.0 c f.2 in
      let i = in_top (cut x) f.0 f.1 in
      let n = cut_end x in
      omega arith

  in_tail : (c : Change) → Memᴰ c (tail_drop x) → (c ≡ change a_drop (first_fault x)) × (first_fault x < end x)
  unfolding tail_drop
  in_tail c m = by_bool (first_fault x <? end x)
      (λ t. (Memᴰ.eq_of_singleton (rw t at m), ltb-true _ _ t))
      (λ t. absurd (Memᴰ.not-nil (rw t at m)))

  tail_not : (w p : ℕ) → p < first_fault x → listed w p (tail_drop x) ≡ false
  unfolding listed
  tail_not w p h = some_none (λ (c : Change). (c.what ≡? w) && (c.place ≡? p)) (tail_drop x) (λ c m.
      let e = (in_tail c m).0 in
      rw (e, ne_eqb (first_fault x) p (omega arith)) (by_bool (a_drop ≡? w) (λ t. rw t) (λ t. rw t)))

  listed_in : (w p : ℕ) → Memᴰ p (top_units (cut x)) → listed w p (changes x) ≡ listed w p (change_at (cut x) p)
  listed_in w p m =
      let i = in_top (cut x) p m in
      let n = cut_end x in
      split ∙ ap₂ ◌||◌ (listed_own (cut x) w p m) (tail_not w p (omega arith)) ∙ or_false (listed w p (change_at (cut x) p))
    where
      split : listed w p (changes x) ≡ (listed w p in_units || listed w p (tail_drop x))
      split = unfold listed changes in some_append (λ (c : Change). (c.what ≡? w) && (c.place ≡? p)) in_units (tail_drop x)

      or_false : (b : Bool) → (b || false) ≡ b
      or_false true = refl
      or_false false = refl

  pub listed_drop : (p : ℕ) → Memᴰ p (top_units (cut x)) → listed a_drop p (changes x) ≡ is_dropped (cut x) p
  listed_drop p m = listed_in a_drop p m ∙ own_drop (cut x) p

  pub listed_zeroing : (p : ℕ) → Memᴰ p (top_units (cut x)) → listed a_zeroing p (changes x) ≡ (not (is_dropped (cut x) p) && loses_cover (cut x) p)
  listed_zeroing p m = listed_in a_zeroing p m ∙ own_zeroing (cut x) p

  units_not : (w : ℕ) → listed w (first_fault x) in_units ≡ false
  unfolding listed
  units_not w = some_none (λ (c : Change). (c.what ≡? w) && (c.place ≡? first_fault x)) in_units (λ c m.
      let i = in_units_lem c m in
      rw (ne_eqb c.place (first_fault x) (omega arith)) (by_bool (c.what ≡? w) (λ t. rw t) (λ t. rw t)))

  tail_own : listed a_drop (first_fault x) (tail_drop x) ≡ (first_fault x <? end x)
  unfolding listed some tail_drop
  tail_own = by_bool (first_fault x <? end x)
      (λ t. rw (t, eq-eqb (first_fault x) (first_fault x) refl))
      (λ t. rw t)

  pub listed_tail : listed a_drop (first_fault x) (changes x) ≡ (first_fault x <? end x)
  listed_tail = split ∙ ap₂ ◌||◌ (units_not a_drop) tail_own ∙ false-or _
    where
      split : listed a_drop (first_fault x) (changes x) ≡ (listed a_drop (first_fault x) in_units || listed a_drop (first_fault x) (tail_drop x))
      split = unfold listed changes in some_append (λ (c : Change). (c.what ≡? a_drop) && (c.place ≡? first_fault x)) in_units (tail_drop x)

  pub changes_rise : Rising (λ (c d : Change). c.place < d.place) (changes x)
  unfolding changes
  changes_rise = rising_append (λ (c d : Change). c.place < d.place) in_units (tail_drop x)
      (rising_each (Before (cut x)) (λ (c d : Change). c.place < d.place) (change_at (cut x)) (top_units (cut x)) (top_rise (cut x)) (own_rise (cut x))
      (λ p q c d h m k. let e = at_place (cut x) p c m in let f = at_place (cut x) q d k in let n = next_after (cut x) p in omega arith))
      tail_rise
      (λ c d m k. let i = in_units_lem c m in let e = ap (λ (z : Change). z.place) (in_tail d k).0 in omega arith)
    where
      tail_rise : Rising (λ (c d : Change). c.place < d.place) (tail_drop x)
      tail_rise = unfold tail_drop in by_bool (first_fault x <? end x)
          (λ t. rw t ((λ c m. absurd (Memᴰ.not-nil m)), tt))
          (λ t. rw t tt)

  pub changes_inside : (c : Change) → Memᴰ c (changes x) → c.place < end x
  unfolding changes
  changes_inside c m = let n = fault_most x in ⊎_elim
      (λ k. let i = in_units_lem c k in omega arith)
      (λ k. let i = in_tail c k in let e = ap (λ (z : Change). z.place) i.0 in omega arith)
      (Memᴰ.append_cases in_units m)
