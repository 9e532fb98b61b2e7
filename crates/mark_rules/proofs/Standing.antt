-- Where a walk over a well-formed sample stands: at a top-level border, or at a unit that an aggregator includes. Assumes nothing.
--
--   border_top, border_next                  a top-level border before the end is a top-level unit; where that ends is one
--   unit_border                              a top-level border is a border of units
--   no_border                                no top-level border lies in a unit
--   standing_unit                            before the end a unit stands there
--   standing_border                          where a walk stands is a border of units
--   settled_front, -entered, -passed, -step  the state of a walk, and the next one
--   reach-settled, state_settled             the state at d
--   from_front                               a stretch from the start of the sample
--   border_state                             at a border of units the state stands
--   state_border                             and only there
use Prim.Native.Nat.{ℕ, zero, suc, ◌-◌, ◌≤◌, ◌<◌}
use mathlib.Core.Path.{◌≡◌, refl}
use mathlib.Core.List.{Memᴰ}
use mathlib.Core.Logic.{inl, inr, ⊎_elim}
use mathlib.Core.Bool.{true, false}
use native.Mathlib.Omega.{arith}
use borrow.Author.Tests.{leb-true, leb-false}
use lib.Dec.{leb}
use Rattle.words.specs.Refusals.{ok}
use Rattle.words.proofs.Tests.{by_bool, true_false}
use Rattle.words.proofs.Lists.{is_or_from, is_or_mem}
use Rattle.numbers.proofs.Laws.{L_some}
use Rattle.units.specs.Units.{Sample, end, next, is_aggregator, is_extractor, top_units, border}
use Rattle.units.specs.Aggregators.{included_start, units}
use Rattle.units.specs.Rules.{Whole}
use Rattle.units.proofs.Units.{next_after, whole_end, whole_aggregator}
use Rattle.units.proofs.Walks.{places_step, reached_top, border_inside, units_top, units_included}
use Rattle.samples.specs.Check.{check}
use Rattle.samples.proofs.Laws.{rules, included_inside, unit_whole}
use Rattle.copies.specs.Flat.{UnitBorder, BetweenBorders}
use Rattle.copies.proofs.Flat.{Walking, walking_start, walking_next}
use Rattle.copies.proofs.Runs.{places_next}
use Rattle.mark_rules.specs.declared.WalkState.{WalkState}
use Rattle.mark_rules.specs.Standing.{Standing, Settled}
use Rattle.mark_rules.specs.States.{front, entered, passed, state_step, reach, state_at}
use Rattle.mark_rules.proofs.States.{step_aggregator, step_other, step_place, step_after, reach_here, reach_step}

module _ (x : Sample) where
  pub border_top : (q : ℕ) → border x q ≡ true → q < end x → Memᴰ q (top_units x)
  unfolding border
  border_top q b h = ⊎_elim (λ e. absurd (omega arith)) (λ m. m) (is_or_from q (end x) (top_units x) b)

  pub unit_border : (q : ℕ) → border x q ≡ true → UnitBorder x q
  unfolding border
  unit_border q b = ⊎_elim (λ e. inl e) (λ m. inr (units_top x q m)) (is_or_from q (end x) (top_units x) b)

  front_border : border x 0 ≡ true
  unfolding border top_units
  front_border = is_or_mem 0 (end x) (top_units x) (by_bool (leb (end x) 0)
      (λ t. let l = leb-true (end x) 0 t in inl (omega arith))
      (λ t. inr (rw (places_step x 0 (end x) (leb-false (end x) 0 t)) (Memᴰ.head refl))))

module _ (x : Sample) (ok : check x ≡ ok tt) where
  top_whole : (p : ℕ) → Memᴰ p (top_units x) → (p < end x) × (next x p ≤ end x)
  top_whole p m = whole_end x (end x) p ((rules x ok).tops p m)

  pub border_next : (p : ℕ) → Memᴰ p (top_units x) → border x (next x p) ≡ true
  unfolding border top_units
  border_next p m = is_or_mem (next x p) (end x) (top_units x) (places_next x 0 (end x) p m (top_whole p m).1)

  pub no_border : (d p : ℕ) → Memᴰ p (top_units x) → p < d → d < next x p → border x d ≡ false
  no_border d p m l u = let w = top_whole p m in border_inside x p d (reached_top x p m) w.0 w.1 l u

  -- what stands where a walk stands
  pub standing_unit : (g q : ℕ) → Standing x g q → q < end x → Memᴰ q (units x)
  standing_unit g q (Standing.outside l b) h = units_top x q (border_top x q b h)
  standing_unit g q (Standing.inside p m t e i) h = units_included x p q m t i

  pub standing_border : (g q : ℕ) → Standing x g q → UnitBorder x q
  standing_border g q (Standing.outside l b) = unit_border x q b
  standing_border g q (Standing.inside p m t e i) = inr (units_included x p q m t i)

  -- after the head of an aggregator: at its first included unit, or at its end
  stands_entered : (g q : ℕ) → Standing x g q → q < end x → is_aggregator x q ≡ true → Standing x (next x q) (included_start x q)
  stands_entered g q (Standing.outside l b) h t =
      let m = border_top x q b h in
      let w = whole_aggregator x (end x) q ((rules x ok).tops q m) t in
      by_bool (leb (next x q) (included_start x q))
      (λ e. let f = leb-true (next x q) (included_start x q) e in let same : included_start x q ≡ next x q = omega arith in
      Standing.outside f (rw same (border_next q m)))
      (λ e. let f = leb-false (next x q) (included_start x q) e in
      Standing.inside q m t refl (rw (places_step x (included_start x q) (next x q) f) (Memᴰ.head refl)))
  stands_entered g q (Standing.inside p m a e i) h t = true_false _ t (included_inside x ok p m a q i).2

  -- after another unit
  stands_passed : (g q : ℕ) → Standing x g q → q < end x → is_aggregator x q ≡ false → Standing x g (next x q)
  stands_passed g q (Standing.outside l b) h t = let n = next_after x q in Standing.outside (omega arith) (border_next q (border_top x q b h))
  stands_passed g q (Standing.inside p m a e i) h t =
      let j = (included_inside x ok p m a q i).1 in
      ⊎_elim
      (λ f. Standing.outside (omega arith) (rw f (border_next p m)))
      (λ k. Standing.inside p m a e k)
      (places_next x (included_start x p) (next x p) q i j)

  pub settled_front : Settled x front
  settled_front = record {
    stands = Standing.outside (omega arith) (front_border x);
    most = omega arith;
    until_most = omega arith;
    small = omega arith;
    fewer = omega arith;
  }

  module _ (s : WalkState) (c : Settled x s) (h : s.place < end x) where
    pub settled_whole : Whole x (end x) s.place
    settled_whole = unit_whole x ok s.place (standing_unit s.until s.place c.stands h)

    settled_entered : is_aggregator x s.place ≡ true → Settled x (entered x s)
    settled_entered t =
        let w = settled_whole in
        let u = (whole_end x (end x) s.place w).1 in
        let a = whole_aggregator x (end x) s.place w t in
        record {
          stands = stands_entered s.until s.place c.stands h t;
          most = omega arith;
          until_most = u;
          small = omega (arith, c.small);
          fewer = c.fewer;
        }

    settled_passed : is_aggregator x s.place ≡ false → Settled x (passed x s)
    settled_passed t =
        let u = (whole_end x (end x) s.place settled_whole).1 in
        let l = L_some x.length_size in
        record {
          stands = stands_passed s.until s.place c.stands h t;
          most = u;
          until_most = c.until_most;
          small = omega (arith, c.small);
          fewer = by_bool (is_extractor x s.place)
              (λ g. rw g (omega (arith, c.fewer)))
              (λ g. rw g (omega (arith, c.fewer)));
        }

    pub settled_step : Settled x (state_step x s)
    settled_step = by_bool (is_aggregator x s.place)
        (λ t. rw (step_aggregator x s t) (settled_entered t))
        (λ t. rw (step_other x s t) (settled_passed t))

  settled_by : (k d : ℕ) (s : WalkState) → d - s.place ≤ k → d ≤ end x → Settled x s → Settled x (reach x d s)
  settled_by zero d s f m c = rw (reach_here x d s (omega arith)) c
  settled_by (suc k) d s f m c = by_bool (leb d s.place)
      (λ q. rw (reach_here x d s (leb-true d s.place q)) c)
      (λ q. let l = leb-false d s.place q in let a = step_after x s in
      rw (reach_step x d s l) (settled_by k d (state_step x s) (omega arith) m (settled_step s c (omega arith))))

  pub state_settled : (d : ℕ) → d ≤ end x → Settled x (state_at x d)
  unfolding state_at
  state_settled d m = settled_by d d front (omega arith) m settled_front

  -- a walk up to a border of units stands there in the end
  stands_by : (k d : ℕ) (s : WalkState) → d - s.place ≤ k → Walking x d s.place → (reach x d s).place ≡ d
  stands_by zero d s f w = let i = w.inside in rw (reach_here x d s (omega arith)) (omega arith)
  stands_by (suc k) d s f w = by_bool (leb d s.place)
      (λ q. let l = leb-true d s.place q in let i = w.inside in rw (reach_here x d s l) (omega arith))
      (λ q. let l = leb-false d s.place q in let a = step_after x s in
      rw (reach_step x d s l) (stands_by k d (state_step x s) (omega arith) (rw (step_place x s) (walking_next x d s.place w l))))

  -- from the start of the sample up to a border
  pub from_front : (d : ℕ) → UnitBorder x d → BetweenBorders x 0 d
  from_front d b = record { formed = ok; start = unit_border x 0 (front_border x); stop = b; order = omega arith }

  pub border_state : (d : ℕ) → UnitBorder x d → (state_at x d).place ≡ d
  unfolding state_at
  border_state d b = stands_by d d front (omega arith) (walking_start x 0 d (from_front d b))

  pub state_border : (d : ℕ) → d ≤ end x → (state_at x d).place ≡ d → UnitBorder x d
  state_border d m e = rw e at (standing_border (state_at x d).until (state_at x d).place (state_settled d m).stands)
