-- How a walk goes on from a state. For any bytes. Assumes nothing.
--
--   step_aggregator, step_other    the state after an aggregator's head, and after another unit
--   step_place, step_after         the place of the next state is the next place of the walk; it lies after
--   reach_here, reach_step         the state at d: this one, or that of the next on
--   reach_on, state_on             going on from the state at c gives the same as going from the front
--   reach_past                     the walk comes to d or past it
--   state_front, state_past        the state at 0; the state at d stands at d or past it
--   reach_enough                   more steps than places between change nothing
use Prim.Native.Nat.{ℕ, zero, suc, ◌-◌, ◌≤◌, ◌<◌}
use mathlib.Core.Path.{◌≡◌, refl, sym, ◌∙◌}
use mathlib.Core.Bool.{true, false}
use native.Mathlib.Omega.{arith}
use borrow.Author.Tests.{le-leb, lt-leb, leb-true, leb-false}
use lib.Dec.{leb}
use Rattle.words.proofs.Tests.{by_bool}
use Rattle.units.specs.Units.{Sample, is_aggregator}
use Rattle.copies.specs.Flat.{flat_step}
use Rattle.copies.proofs.Flat.{flat_aggregator, flat_other, flat_after}
use Rattle.mark_rules.specs.declared.WalkState.{WalkState}
use Rattle.mark_rules.specs.States.{front, entered, passed, state_step, reach_from, reach, state_at}

module _ (x : Sample) where
  pub step_aggregator : (s : WalkState) → is_aggregator x s.place ≡ true → state_step x s ≡ entered x s
  unfolding state_step
  step_aggregator s t = rw t

  pub step_other : (s : WalkState) → is_aggregator x s.place ≡ false → state_step x s ≡ passed x s
  unfolding state_step
  step_other s t = rw t

  pub step_place : (s : WalkState) → (state_step x s).place ≡ flat_step x s.place
  step_place s = by_bool (is_aggregator x s.place)
      (λ t. rw (step_aggregator s t, flat_aggregator x s.place t))
      (λ t. rw (step_other s t, flat_other x s.place t))

  pub step_after : (s : WalkState) → s.place < (state_step x s).place
  step_after s = rw (step_place s) (flat_after x s.place)

  -- the count does not matter, if there is enough of it
  enough : (d k m : ℕ) (s : WalkState) → d - s.place ≤ k → d - s.place ≤ m → reach_from x d k s ≡ reach_from x d m s
  unfolding reach_from
  enough d zero zero s h g = refl
  enough d zero (suc m) s h g = rw (le-leb d s.place (omega arith))
  enough d (suc k) zero s h g = rw (le-leb d s.place (omega arith))
  enough d (suc k) (suc m) s h g = by_bool (leb d s.place)
      (λ q. rw q)
      (λ q. let l = leb-false d s.place q in let a = step_after s in rw (q, enough d k m (state_step x s) (omega arith) (omega arith)))

  pub reach_here : (d : ℕ) (s : WalkState) → d ≤ s.place → reach x d s ≡ s
  reach_here d s h = enough d (d - s.place) zero s (omega arith) (omega arith) ∙ (unfold reach_from in refl)

  pub reach_step : (d : ℕ) (s : WalkState) → s.place < d → reach x d s ≡ reach x d (state_step x s)
  reach_step d s h =
      let a = step_after s in
      enough d (d - s.place) (suc (d - s.place)) s (omega arith) (omega arith)
      ∙ (unfold reach_from in rw (lt-leb d s.place h, enough d (d - s.place) (d - (state_step x s).place) (state_step x s) (omega arith) (omega arith)))

  on : (k c d : ℕ) (s : WalkState) → c - s.place ≤ k → c ≤ d → reach x d (reach x c s) ≡ reach x d s
  on zero c d s f h = rw (reach_here c s (omega arith))
  on (suc k) c d s f h = by_bool (leb c s.place)
      (λ q. rw (reach_here c s (leb-true c s.place q)))
      (λ q. let l = leb-false c s.place q in let a = step_after s in
      rw (reach_step c s l, on k c d (state_step x s) (omega arith) h) (sym (reach_step d s (omega arith))))

  pub reach_on : (c d : ℕ) (s : WalkState) → c ≤ d → reach x d (reach x c s) ≡ reach x d s
  reach_on c d s h = on c c d s (omega arith) h

  pub state_on : (c d : ℕ) → c ≤ d → reach x d (state_at x c) ≡ state_at x d
  unfolding state_at
  state_on c d h = reach_on c d front h

  past : (k d : ℕ) (s : WalkState) → d - s.place ≤ k → d ≤ (reach x d s).place
  past zero d s f = let l : d ≤ s.place = omega arith in rw (reach_here d s l) l
  past (suc k) d s f = by_bool (leb d s.place)
      (λ q. let l = leb-true d s.place q in rw (reach_here d s l) l)
      (λ q. let l = leb-false d s.place q in let a = step_after s in rw (reach_step d s l) (past k d (state_step x s) (omega arith)))

  pub reach_past : (d : ℕ) (s : WalkState) → d ≤ (reach x d s).place
  reach_past d s = past d d s (omega arith)

  pub state_past : (d : ℕ) → d ≤ (state_at x d).place
  unfolding state_at
  state_past d = reach_past d front

  -- more steps than places between change nothing
  pub reach_enough : (d k : ℕ) (s : WalkState) → d - s.place ≤ k → reach_from x d k s ≡ reach x d s
  reach_enough d k s h = enough d k (d - s.place) s h (omega arith)

  pub state_front : state_at x 0 ≡ front
  unfolding state_at
  state_front = reach_here 0 front (omega arith)
