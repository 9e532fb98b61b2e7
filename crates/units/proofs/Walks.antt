-- Laws of walks over units. Assumes nothing.
--
--   places_end, places_step                             the places of units from p up to e: none, or p and those from the next on
--   in_places, in_top                                   they lie from p on, before e
--   places_rise, top_rise                               each ends before the next starts
--   walk, walk_none, walk_here, walk_on                 the first refusal of a walk, place by place
--   places_tile                                         units that lie without gap or overlap
--   Reached, reached_start, -next, -top, -mem, -border  a top-level walk that has come to p
--   border_past, -here, -inside                         borders on the way of a walk
--   in_unit, units_rise                                 a unit and what it includes lie before the next; all units rise
--   units_top, units_included, units_from               membership in all units, both ways
use Prim.Native.Nat.{ℕ, zero, suc, ◌-◌, ◌≤◌, ◌<◌}
use mathlib.Core.Path.{◌≡◌, refl, ap, sym, ◌∙◌, subst}
use mathlib.Core.List.Memᴰ
use mathlib.Core.List.{List, [], ◌∷◌, ◌++◌, append_assoc, Memᴰ}
use mathlib.Core.Logic.{inl, inr, ⊎_elim}
use mathlib.Core.Bool.{true, false, ◌||◌, false-or}
use native.Mathlib.Omega.{arith}
use borrow.Author.Tests.{le-leb, lt-leb, leb-true, leb-false, eqb-true, eqb-false, ne_eqb}
use lib.Dec.{leb}
use Rattle.words.specs.Tests.{◌≡?◌}
use Rattle.words.specs.Refusals.{ok, refused, Verdict, first}
use Rattle.words.specs.Lists.{has}
use Rattle.words.proofs.Tests.{by_bool}
use Rattle.words.proofs.Lists.{some_append, some_none, is_or_mem, each_mem, each_from, Rising, rising_each, rising_weaken}
use Rattle.numbers.proofs.Laws.{L_some}
use Rattle.units.specs.Units.{Sample, end, next, is_aggregator, places_from, places, top_units, border}
use Rattle.units.specs.Aggregators.{included_start, included, with_included, units}
use Rattle.units.specs.Rules.{Whole, Tiles}
use Rattle.units.proofs.Units.{next_after, whole_end}

module _ (x : Sample) where
  places_in : (e k p q : ℕ) → Memᴰ q (places_from x e k p) → (p ≤ q) × (q < e)
  unfolding places_from
  places_in e zero p q m = absurd (Memᴰ.not-nil m)
  places_in e (suc k) p q m = by_bool (leb e p)
      (λ t. absurd (Memᴰ.not-nil (rw t at m)))
      (λ t. let l = leb-false e p t in ⊎_elim
      (λ a. (omega arith, omega arith))
      (λ b. let i = places_in e k (next x p) q b in let g = next_after x p in (omega arith, i.1))
      (Memᴰ.cases_cons (rw t at m)))

  -- the count does not matter, if there is enough of it
  enough : (e k m p : ℕ) → e - p ≤ k → e - p ≤ m → places_from x e k p ≡ places_from x e m p
  unfolding places_from
  enough e zero zero p h g = refl
  enough e zero (suc m) p h g = rw (le-leb e p (omega arith))
  enough e (suc k) zero p h g = rw (le-leb e p (omega arith))
  enough e (suc k) (suc m) p h g = by_bool (leb e p)
      (λ q. rw q)
      (λ q. let l = leb-false e p q in let a = next_after x p in rw (q, enough e k m (next x p) (omega arith) (omega arith)))

  pub places_end : (p e : ℕ) → e ≤ p → places x p e ≡ []
  places_end p e h = enough e (e - p) zero p (omega arith) (omega arith) ∙ (unfold places_from in refl)

  pub places_step : (p e : ℕ) → p < e → places x p e ≡ p ∷ places x (next x p) e
  places_step p e h =
      let a = next_after x p in
      enough e (e - p) (suc (e - p)) p (omega arith) (omega arith)
      ∙ (unfold places_from in rw (lt-leb e p h, enough e (e - p) (e - next x p) (next x p) (omega arith) (omega arith)))

  pub in_places : (p e q : ℕ) → Memᴰ q (places x p e) → (p ≤ q) × (q < e)
  in_places p e q m = places_in e (e - p) p q m

  pub in_top : (q : ℕ) → Memᴰ q (top_units x) → q < end x
  unfolding top_units
  in_top q m = (in_places 0 (end x) q m).1

  -- units rise, whatever stands in them
  abbrev pub Before : ℕ → ℕ → Type 0
  Before p q = next x p ≤ q

  rise : (e k p : ℕ) → Rising Before (places_from x e k p)
  unfolding places_from
  rise e zero p = tt
  rise e (suc k) p = by_bool (leb e p)
      (λ t. rw t tt)
      (λ t. rw t ((λ q m. (places_in e k (next x p) q m).0), rise e k (next x p)))

  pub places_rise : (p e : ℕ) → Rising Before (places x p e)
  places_rise p e = rise e (e - p) p

  pub top_rise : Rising Before (top_units x)
  unfolding top_units
  top_rise = places_rise 0 (end x)

  -- the first refusal of the walk from p on
  abbrev pub walk : (ℕ → Verdict) → ℕ → ℕ → Verdict
  walk judge p e = first judge (places x p e)

  pub walk_none : (judge : ℕ → Verdict) (p e : ℕ) → e ≤ p → walk judge p e ≡ ok tt
  unfolding first
  walk_none judge p e h = rw (places_end p e h)

  pub walk_here : (judge : ℕ → Verdict) (p e : ℕ) {n q : ℕ} → p < e → judge p ≡ refused n q → walk judge p e ≡ refused n q
  unfolding first
  walk_here judge p e h f = rw (places_step p e h, f)

  pub walk_on : (judge : ℕ → Verdict) (p e : ℕ) → p < e → judge p ≡ ok tt → walk judge p e ≡ walk judge (next x p) e
  unfolding first
  walk_on judge p e h f = rw (places_step p e h, f)

  -- A top-level walk that has come to p: what is done lies before p, and the rest are the places from p on.
  pub record Reached (p : ℕ) : Type 0 where
    pub done : List ℕ
    pub split : top_units x ≡ done ++ places x p (end x)
    pub below : (q : ℕ) → Memᴰ q done → q < p

  pub reached_start : Reached 0
  unfolding top_units
  reached_start = record { done = []; split = refl; below = λ q m. absurd (Memᴰ.not-nil m) }

  pub reached_next : (p : ℕ) → p < end x → Reached p → Reached (next x p)
  reached_next p h w = record {
    done = w.done ++ (p ∷ []);
    split = w.split ∙ ap (λ l. w.done ++ l) (places_step p (end x) h) ∙ sym (append_assoc w.done (p ∷ []) _);
    below = λ q m. let a = next_after x p in ⊎_elim (λ k. let b = w.below q k in omega arith) (λ k. let b = Memᴰ.eq_of_singleton k in omega arith) (Memᴰ.append_cases w.done m);
  }

  reached_by : (k a p : ℕ) → end x - a ≤ k → Reached a → Memᴰ p (places x a (end x)) → Reached p
  reached_by zero a p h w m = absurd (Memᴰ.not-nil (rw (places_end a (end x) (omega arith)) at m))
  reached_by (suc k) a p h w m = by_bool (leb (end x) a)
      (λ q. absurd (Memᴰ.not-nil (rw (places_end a (end x) (leb-true _ _ q)) at m)))
      (λ q. let l = leb-false (end x) a q in let n = next_after x a in ⊎_elim
      (λ e. subst Reached (sym e) w)
      (λ m'. reached_by k (next x a) p (omega arith) (reached_next a l w) m')
      (Memᴰ.cases_cons (rw (places_step a (end x) l) at m)))

  -- where a top-level unit stands the walk comes to
  pub reached_top : (p : ℕ) → Memᴰ p (top_units x) → Reached p
  unfolding top_units
  reached_top p m = reached_by (end x) 0 p (omega arith) reached_start m

  pub reached_mem : (q : ℕ) → Reached q → q < end x → Memᴰ q (top_units x)
  reached_mem q w h = rw (w.split, places_step q (end x) h) (Memᴰ.append_right w.done (Memᴰ.head refl))

  -- from p on, borders are found without looking back
  pub reached_border : (p : ℕ) → Reached p → (b : ℕ) → p ≤ b → border x b ≡ ((b ≡? end x) || has b (places x p (end x)))
  unfolding border
  reached_border p w b h = ap (λ t. (b ≡? end x) || t)
      (rw w.split (some_append (λ m. b ≡? m) w.done (places x p (end x))
      ∙ ap (λ t. t || has b (places x p (end x))) (some_none (λ m. b ≡? m) w.done (λ q m. let k = w.below q m in ne_eqb b q (omega arith))) ∙ false-or _))

  -- borders on the way of a walk
  pub border_past : (b : ℕ) → end x < b → border x b ≡ false
  unfolding border
  border_past b h = rw (ne_eqb b (end x) (omega arith), some_none (λ m. b ≡? m) (top_units x) (λ q m. let i = in_top q m in ne_eqb b q (omega arith)))

  pub border_here : (q : ℕ) → Reached q → q ≤ end x → border x q ≡ true
  unfolding border
  border_here q w h = is_or_mem q (end x) (top_units x) (by_bool (q ≡? end x)
      (λ t. inl (eqb-true q (end x) t))
      (λ t. inr (reached_mem q w (let n = eqb-false q (end x) t in omega arith))))

  pub border_inside : (q b : ℕ) → Reached q → q < end x → next x q ≤ end x → q < b → b < next x q → border x b ≡ false
  border_inside q b w h g l u = reached_border q w b (omega arith) ∙ rw (ne_eqb b (end x) (omega arith), places_step q (end x) h)
      (some_none (λ m. b ≡? m) (q ∷ places x (next x q) (end x)) (λ k m. ⊎_elim (λ e. ne_eqb b k (omega arith)) (λ m'. let i = in_places _ _ k m' in ne_eqb b k (omega arith)) (Memᴰ.cases_cons m)))

  -- units that lie without gap or overlap
  tile : (e k p : ℕ) → e - p ≤ k → p ≤ e → ((q : ℕ) → Memᴰ q (places x p e) → next x q ≤ e) → Tiles x p e (places x p e)
  tile e zero p h l w = rw (places_end p e (omega arith)) (omega arith)
  tile e (suc k) p h l w = by_bool (leb e p)
      (λ t. let g = leb-true e p t in rw (places_end p e g) (omega arith))
      (λ t. let g = leb-false e p t in let a = next_after x p in
      let n = w p (rw (places_step p e g) (Memᴰ.head refl)) in
      let rest = tile e k (next x p) (omega arith) n (λ q m. w q (rw (places_step p e g) (Memᴰ.tail m))) in
      rw (places_step p e g) (refl, n, rest))

  -- places whose units are whole tile what they stand in
  pub places_tile : (p e : ℕ) → p ≤ e → ((q : ℕ) → Memᴰ q (places x p e) → Whole x e q) → Tiles x p e (places x p e)
  places_tile p e l w = tile e (e - p) p (omega arith) l (λ q m. (whole_end x e q (w q m)).1)

  -- all units, included ones too
  pub in_unit : (p q : ℕ) → Memᴰ q (with_included x p) → (p ≤ q) × (q < next x p)
  unfolding with_included
  in_unit p q m = let l = L_some x.length_size in let a = next_after x p in ⊎_elim
      (λ e. (omega arith, omega arith))
      (λ k. by_bool (is_aggregator x p)
      (λ t. let i = in_places (included_start x p) (next x p) q (rw t at k) in (omega arith, i.1))
      (λ t. absurd (Memᴰ.not-nil (rw t at k))))
      (Memᴰ.cases_cons m)

  pub units_top : (p : ℕ) → Memᴰ p (top_units x) → Memᴰ p (units x)
  unfolding units with_included
  units_top p m = each_mem (with_included x) (top_units x) m (Memᴰ.head refl)

  pub units_included : (p q : ℕ) → Memᴰ p (top_units x) → is_aggregator x p ≡ true → Memᴰ q (included x p) → Memᴰ q (units x)
  unfolding units with_included
  units_included p q m t k = each_mem (with_included x) (top_units x) m (Memᴰ.tail (rw t k))

  -- a unit of the sample is a top-level unit, or included in one
  pub units_from : {G : Type 0} (q : ℕ) → Memᴰ q (units x) → (Memᴰ q (top_units x) → G) → ((p : ℕ) → Memᴰ p (top_units x) → is_aggregator x p ≡ true → Memᴰ q (included x p) → G) → G
  unfolding units with_included
  units_from q m f g =
      let w = each_from (with_included x) (top_units x) m in
      ⊎_elim
      (λ h. f (rw h w.1))
      (λ k. by_bool (is_aggregator x w.0)
      (λ t. g w.0 w.1 t (rw t at k))
      (λ t. absurd (Memᴰ.not-nil (rw t at k))))
      (Memᴰ.cases_cons w.2)

  with_rise : (p : ℕ) → Rising ◌<◌ (with_included x p)
  unfolding with_included
  with_rise p = by_bool (is_aggregator x p)
      (λ t. rw t (
        (λ q m. let i = in_places (included_start x p) (next x p) q m in let l = L_some x.length_size in omega arith),
        rising_weaken Before ◌<◌ (included x p) (λ a b h. let n = next_after x a in omega arith) (places_rise (included_start x p) (next x p)),
      ))
      (λ t. rw t ((λ q m. absurd (Memᴰ.not-nil m)), tt))

  pub units_rise : Rising ◌<◌ (units x)
  unfolding units
  units_rise = rising_each Before ◌<◌ (with_included x) (top_units x) top_rise with_rise
      (λ p q a b h m n. let i = in_unit p a m in let j = in_unit q b n in omega arith)
