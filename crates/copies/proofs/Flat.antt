-- All units of a well-formed sample as one walk. Assumes nothing.
--
--   flat_aggregator, flat_other                   the place after an aggregator, and after another unit
--   flat_after                                    the walk goes on
--   flat_end, flat_step_lem                       the places from p up to e: none, or p and those from the next on
--   flat_part                                     a part of a walk, from one of its places on, is a walk
--   flat_units                                    all units of a well-formed sample
--   flat_run                                      units that are no aggregators, one after another
--   border_most                                   a border of units does not lie past the end
--   flat_between                                  the units between two borders, top-level and included
--   sample_borders                                a well-formed sample lies between two borders
--   flat_good                                     each unit between two borders is whole, and the walk does not leave them
--   Walking, walking_start, -whole, -step, -next  a walk between two borders that has come to p: what stands there is whole
use Prim.Native.Nat.{ℕ, zero, suc, ◌-◌, ◌≤◌, ◌<◌}
use mathlib.Core.Path.{◌≡◌, refl, ap, ◌∙◌}
use mathlib.Core.List.{[], ◌∷◌, ◌++◌, append-nil, Memᴰ}
use mathlib.Core.Logic.{◌⊎◌, inl, inr, ⊎_elim}
use mathlib.Core.Bool.{Bool, true, false, ◌&&◌}
use native.Mathlib.Omega.{arith}
use borrow.Author.Tests.{le-leb, lt-leb, leb-true, leb-false, lt-ltb, le-ltb}
use lib.Dec.{leb}
use Rattle.words.specs.Tests.{◌≤?◌, ◌<?◌}
use Rattle.words.specs.Refusals.{ok}
use Rattle.words.specs.Lists.{keep, each}
use Rattle.words.proofs.Tests.{by_bool}
use Rattle.words.proofs.Lists.{keep_mem, keep_from, keep_nothing}
use Rattle.words.proofs.Kept.{keep_same, keep_no}
use Rattle.numbers.proofs.Laws.{L_some}
use Rattle.units.specs.Units.{Sample, end, next, is_aggregator, places, top_units}
use Rattle.units.specs.Aggregators.{included_start, with_included, units}
use Rattle.units.specs.Rules.{Whole}
use Rattle.units.proofs.Units.{next_after, whole_end, whole_aggregator}
use Rattle.units.proofs.Walks.{places_end, places_step}
use Rattle.samples.specs.Check.{check}
use Rattle.samples.proofs.Laws.{rules, included_inside, unit_whole, unit_inside}
use Rattle.copies.specs.Flat.{flat_step, flat_from, flat_places, UnitBorder, BetweenBorders}

module _ (x : Sample) where
  pub flat_aggregator : (p : ℕ) → is_aggregator x p ≡ true → flat_step x p ≡ included_start x p
  unfolding flat_step
  flat_aggregator p t = rw t

  pub flat_other : (p : ℕ) → is_aggregator x p ≡ false → flat_step x p ≡ next x p
  unfolding flat_step
  flat_other p t = rw t

  pub flat_after : (p : ℕ) → p < flat_step x p
  flat_after p = by_bool (is_aggregator x p)
      (λ t. let e = flat_aggregator p t in let l = L_some x.length_size in omega arith)
      (λ t. let e = flat_other p t in let l = next_after x p in omega arith)

  -- the count does not matter, if there is enough of it
  enough : (e k m p : ℕ) → e - p ≤ k → e - p ≤ m → flat_from x e k p ≡ flat_from x e m p
  unfolding flat_from
  enough e zero zero p h g = refl
  enough e zero (suc m) p h g = rw (le-leb e p (omega arith))
  enough e (suc k) zero p h g = rw (le-leb e p (omega arith))
  enough e (suc k) (suc m) p h g = by_bool (leb e p)
      (λ q. rw q)
      (λ q. let l = leb-false e p q in let a = flat_after p in rw (q, enough e k m (flat_step x p) (omega arith) (omega arith)))

  pub flat_end : (p e : ℕ) → e ≤ p → flat_places x p e ≡ []
  flat_end p e h = enough e (e - p) zero p (omega arith) (omega arith) ∙ (unfold flat_from in refl)

  pub flat_step_lem : (p e : ℕ) → p < e → flat_places x p e ≡ p ∷ flat_places x (flat_step x p) e
  flat_step_lem p e h =
      let a = flat_after p in
      enough e (e - p) (suc (e - p)) p (omega arith) (omega arith)
      ∙ (unfold flat_from in rw (lt-leb e p h, enough e (e - p) (e - flat_step x p) (flat_step x p) (omega arith) (omega arith)))

  from_in : (e k p q : ℕ) → Memᴰ q (flat_from x e k p) → (p ≤ q) × (q < e)
  unfolding flat_from
  from_in e zero p q m = absurd (mathlib.Core.List.Memᴰ.not-nil m)
  from_in e (suc k) p q m = by_bool (leb e p)
      (λ t. absurd (mathlib.Core.List.Memᴰ.not-nil (rw t at m)))
      (λ t. let l = leb-false e p t in ⊎_elim
      (λ a. (omega arith, omega arith))
      (λ b. let i = from_in e k (flat_step x p) q b in let g = flat_after p in (omega arith, i.1))
      (mathlib.Core.List.Memᴰ.cases_cons (rw t at m)))

  in_flat : (p e q : ℕ) → Memᴰ q (flat_places x p e) → (p ≤ q) × (q < e)
  in_flat p e q m = from_in e (e - p) p q m

  -- a part of a walk
  abbrev in_part : ℕ → ℕ → ℕ → Bool
  in_part a b q = (a ≤? q) && (q <? b)

  upto : (e b k p : ℕ) → e - p ≤ k → b ≤ e → keep (λ q. q <? b) (flat_places x p e) ≡ flat_places x p b
  unfolding keep
  upto e b zero p h l = rw (flat_end p e (omega arith), flat_end p b (omega arith))
  upto e b (suc k) p h l = by_bool (leb b p)
      (λ t. let i = leb-true b p t in
      rw (flat_end p b i) (keep_nothing (λ q. q <? b) (flat_places x p e) (λ q m. let j = in_flat p e q m in le-ltb q b (omega arith))))
      (λ t. let i = leb-false b p t in let n = flat_after p in
      rw (flat_step_lem p e (omega arith), flat_step_lem p b i, lt-ltb p b i) (ap (λ l. p ∷ l) (upto e b k (flat_step x p) (omega arith) l)))

  part_from : (e b a k p : ℕ) → e - p ≤ k → b ≤ e → Memᴰ a (flat_places x p e) → keep (in_part a b) (flat_places x p e) ≡ flat_places x a b
  part_from e b a zero p h l m = absurd (mathlib.Core.List.Memᴰ.not-nil (rw (flat_end p e (omega arith)) at m))
  part_from e b a (suc k) p h l m = by_bool (leb e p)
      (λ t. absurd (mathlib.Core.List.Memᴰ.not-nil (rw (flat_end p e (leb-true e p t)) at m)))
      (λ t. let i = leb-false e p t in let n = flat_after p in ⊎_elim
      (λ j. rw j (keep_same (in_part p b) (λ q. q <? b) (flat_places x p e) (λ q u. rw (le-leb p q (in_flat p e q u).0)) ∙ upto e b (e - p) p (omega arith) l))
      (λ j. let f = in_flat (flat_step x p) e a j in
      rw (flat_step_lem p e i) (keep_no (in_part a b) p (flat_places x (flat_step x p) e) (rw (lt-leb a p (omega arith))) ∙ part_from e b a k (flat_step x p) (omega arith) l j))
      (mathlib.Core.List.Memᴰ.cases_cons (rw (flat_step_lem p e i) at m)))

  -- from one of its places, or from its end on
  pub flat_part : (p e a b : ℕ) → Memᴰ a (flat_places x p e) ⊎ (a ≡ e) → b ≤ e → keep (λ q. (a ≤? q) && (q <? b)) (flat_places x p e) ≡ flat_places x a b
  flat_part p e a b s l = ⊎_elim
      (λ m. part_from e b a (e - p) p (omega arith) l m)
      (λ i. rw (flat_end a b (omega arith)) (keep_nothing (in_part a b) (flat_places x p e) (λ q m. let j = in_flat p e q m in rw (lt-leb a q (omega arith)))))
      s

  -- units that are no aggregators and lie from a to m, without a gap
  run : (m b k a : ℕ) → m - a ≤ k → a ≤ m → m ≤ b → ((q : ℕ) → Memᴰ q (places x a m) → (next x q ≤ m) × (is_aggregator x q ≡ false)) → flat_places x a b ≡ places x a m ++ flat_places x m b
  run m b zero a h l g f = let e : a ≡ m = omega arith in rw (e, places_end x m m (omega arith))
  run m b (suc k) a h l g f = by_bool (leb m a)
      (λ t. let i = leb-true m a t in let e : a ≡ m = omega arith in rw (e, places_end x m m (omega arith)))
      (λ t. let i = leb-false m a t in let n = next_after x a in
      let s = places_step x a m i in
      let here = f a (rw s (mathlib.Core.List.Memᴰ.head refl)) in
      let n' = here.0 in
      flat_step_lem a b (omega arith) ∙ rw (flat_other a here.1, s)
      (ap (λ l. a ∷ l) (run m b k (next x a) (omega arith) n' g (λ q j. f q (rw s (mathlib.Core.List.Memᴰ.tail j))))))

  pub flat_run : (a e : ℕ) → a ≤ e → ((q : ℕ) → Memᴰ q (places x a e) → (next x q ≤ e) × (is_aggregator x q ≡ false)) → flat_places x a e ≡ places x a e
  flat_run a e l f = run e e (e - a) a (omega arith) l (omega arith) f ∙ rw (flat_end e e (omega arith)) (append-nil (places x a e))

  module _ (ok : check x ≡ ok tt) where
    -- a top-level unit, and what it includes
    flat_unit : (p b : ℕ) → Memᴰ p (top_units x) → next x p ≤ b → flat_places x p b ≡ with_included x p ++ flat_places x (next x p) b
    unfolding with_included
    flat_unit p b m h =
        let n = next_after x p in
        flat_step_lem p b (omega arith) ∙ ap (λ l. p ∷ l) (by_bool (is_aggregator x p)
        (λ t. rw (flat_aggregator p t, t) (run (next x p) b (next x p) (included_start x p) (omega arith) (whole_aggregator x (end x) p ((rules x ok).tops p m) t) h (λ q k. let i = included_inside x ok p m t q k in (i.1, i.2))))
        (λ t. rw (flat_other p t, t)))

    tops : (k a : ℕ) → end x - a ≤ k → ((q : ℕ) → Memᴰ q (places x a (end x)) → Memᴰ q (top_units x)) → each (with_included x) (places x a (end x)) ≡ flat_places x a (end x)
    unfolding each
    tops zero a h f = rw (places_end x a (end x) (omega arith), flat_end a (end x) (omega arith))
    tops (suc k) a h f = by_bool (leb (end x) a)
        (λ t. let i = leb-true (end x) a t in rw (places_end x a (end x) i, flat_end a (end x) i))
        (λ t. let i = leb-false (end x) a t in
        let n = next_after x a in
        let s = places_step x a (end x) i in
        let m = f a (rw s (mathlib.Core.List.Memᴰ.head refl)) in
        rw (s, flat_unit a (end x) m (whole_end x (end x) a ((rules x ok).tops a m)).1, tops k (next x a) (omega arith) (λ q j. f q (rw s (mathlib.Core.List.Memᴰ.tail j)))))

    pub flat_units : units x ≡ flat_places x 0 (end x)
    unfolding units top_units
    flat_units = tops (end x) 0 (omega arith) (λ q m. m)

    pub border_most : (q : ℕ) → UnitBorder x q → q ≤ end x
    border_most q b = ⊎_elim (λ e. omega arith) (λ m. let i = unit_inside x ok q m in omega arith) b

    -- the next place of the walk
    step_inside : (q : ℕ) → Memᴰ q (units x) → flat_step x q ≤ end x
    step_inside q m =
        let w = unit_whole x ok q m in
        let i = whole_end x (end x) q w in
        by_bool (is_aggregator x q)
        (λ t. let h = whole_aggregator x (end x) q w t in let j = flat_aggregator q t in omega arith)
        (λ t. let j = flat_other q t in omega arith)

    step_unit : (q b : ℕ) → Memᴰ q (units x) → Memᴰ b (units x) → q < b → flat_step x q ≤ b
    step_unit q b m j l =
        let u = flat_units in
        let f = flat_part 0 (end x) q (end x) (inl (rw u at m)) (omega arith) in
        let h = in_flat 0 (end x) b (rw u at j) in
        let g : Memᴰ b (flat_places x q (end x)) = rw (← f) (keep_mem (in_part q (end x)) (flat_places x 0 (end x)) (rw u at j) (rw (le-leb q b (omega arith), lt-ltb b (end x) h.1))) in
        ⊎_elim
        (λ e. absurd (omega arith))
        (λ k. (in_flat (flat_step x q) (end x) b k).0)
        (mathlib.Core.List.Memᴰ.cases_cons (rw (flat_step_lem q (end x) (omega arith)) at g))

    step_border : (q b : ℕ) → Memᴰ q (units x) → UnitBorder x b → q < b → flat_step x q ≤ b
    step_border q b m s l = ⊎_elim (λ e. let i = step_inside q m in omega arith) (λ j. step_unit q b m j l) s

  -- a whole sample lies between two borders
  pub sample_borders : check x ≡ ok tt → BetweenBorders x 0 (end x)
  sample_borders k = record {
    formed = k;
    start = by_bool (leb (end x) 0)
        (λ t. let i = leb-true (end x) 0 t in inl (omega arith))
        (λ t. inr (rw (flat_units k, flat_step_lem 0 (end x) (leb-false (end x) 0 t)) (mathlib.Core.List.Memᴰ.head refl)));
    stop = inl refl;
    order = omega arith;
  }

  module _ (a b : ℕ) (s : BetweenBorders x a b) where
    -- the units between two borders, top-level and included
    pub flat_between : keep (λ q. (a ≤? q) && (q <? b)) (units x) ≡ flat_places x a b
    flat_between =
        let u = flat_units s.formed in
        rw u (flat_part 0 (end x) a b (⊎_elim (λ e. inr e) (λ m. inl (rw u at m)) s.start) (border_most s.formed b s.stop))

    -- each unit between two borders is whole, and the walk does not leave them
    pub flat_good : (q : ℕ) → Memᴰ q (flat_places x a b) → Whole x (end x) q × (flat_step x q ≤ b)
    flat_good q m =
        let k = (keep_from (λ q. (a ≤? q) && (q <? b)) (units x) (rw (← flat_between) at m)).0 in
        (unit_whole x s.formed q k, step_border s.formed q b k s.stop (in_flat a b q m).1)

  -- A walk up to a border at e, come to p.
  pub record Walking (e p : ℕ) : Type 0 where
    pub inside : p ≤ e
    pub fits : e ≤ end x
    pub good : (q : ℕ) → Memᴰ q (flat_places x p e) → Whole x (end x) q × (flat_step x q ≤ e)

  pub walking_start : (a e : ℕ) → BetweenBorders x a e → Walking e a
  walking_start a e s = record { inside = s.order; fits = border_most s.formed e s.stop; good = flat_good a e s }

  module _ (e p : ℕ) (w : Walking e p) (h : p < e) where
    pub walking_whole : Whole x (end x) p
    walking_whole = (w.good p (rw (flat_step_lem p e h) (mathlib.Core.List.Memᴰ.head refl))).0

    pub walking_step : flat_step x p ≤ e
    walking_step = (w.good p (rw (flat_step_lem p e h) (mathlib.Core.List.Memᴰ.head refl))).1

    pub walking_next : Walking e (flat_step x p)
    walking_next = record { inside = walking_step; fits = w.fits; good = λ q m. w.good q (rw (flat_step_lem p e h) (mathlib.Core.List.Memᴰ.tail m)) }
