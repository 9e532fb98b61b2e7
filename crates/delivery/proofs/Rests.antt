-- What is left to be delivered from a cursor: the units of its steps, one after the other, up to the end. Any recording, any cursor.
-- Assumes nothing.
--
--   rest r n x c                      what is left
--   rest_after s go                   the same by a step s, and by what is left after it
--   rest_step                         what is left is what the step says, and what is left after it
--   rest_done, rest_moved, rest_unit  the same, by the step's answer
--   moved_less, unit_less             less is left after a step
--   rest_few                          the units left and their bytes are no more than the bound: so counts and sizes fit
use Prim.Native.Nat.{ℕ, zero, suc, ◌+◌, ◌≤◌, ◌<◌}
use mathlib.Core.Path.{◌≡◌, refl, ◌∙◌}
use mathlib.Core.List.{List, [], ◌∷◌}
use native.Mathlib.Omega.{arith}
use lib.ListN.{length}
use Rattle.words.specs.Lists.{sum}
use Rattle.units.specs.Units.{Sample}
use Rattle.bundles.specs.Recordings.{Recording}
use Rattle.delivery.specs.Steps.{step_of}
use Rattle.delivery.specs.Deliveries.{Delivery, unit_for}
use Rattle.delivery.specs.declared.Cursor.{Cursor}
use Rattle.delivery.specs.declared.DeliveredUnit.{DeliveredUnit}
use Rattle.delivery.specs.declared.Stepped.{Stepped}
use Rattle.delivery.specs.declared.Stepped.TheVariants as step
use Rattle.delivery.proofs.Falling.{bound, Falls, falls}
use Rattle.delivery.proofs.Deliveries.{all_size}

abbrev pub rest_after : Stepped → (Cursor → List Delivery) → List Delivery
rest_after step.Done go = []
rest_after (step.Moved d) go = go d
rest_after (step.Unit u d) go = unit_for u ∷ go d

module _ (r : Recording) (n : ℕ) (x : Sample) where
  -- at most so many steps
  unfoldable pub rest_in : ℕ → Cursor → List Delivery
  rest_in zero c = []
  rest_in (suc k) c = rest_after (step_of r n x c) (λ d. rest_in k d)

  unfoldable pub rest : Cursor → List Delivery
  rest c = rest_in (suc (bound r x c)) c

module _ (r : Recording) (n : ℕ) (x : Sample) where
  -- two ways to go on that are the same wherever less is left
  after_same : (c : Cursor) (s : Stepped) → Falls r x c s → (f g : Cursor → List Delivery) → ((d : Cursor) → bound r x d < bound r x c → f d ≡ g d) → rest_after s f ≡ rest_after s g
  after_same c step.Done l f g h = refl
  after_same c (step.Moved d) l f g h = h d (omega arith)
  after_same c (step.Unit u d) l f g h = rw (h d (omega arith))

  -- the number of steps does not matter, if there are enough
  enough : (k m : ℕ) (c : Cursor) → bound r x c < k → bound r x c < m → rest_in r n x k c ≡ rest_in r n x m c
  unfolding rest_in
  enough zero m c h l = absurd (omega arith)
  enough (suc k) zero c h l = absurd (omega arith)
  enough (suc k) (suc m) c h l = after_same c (step_of r n x c) (falls r n x c) _ _ (λ d i. enough k m d (omega arith) (omega arith))

  pub rest_step : (c : Cursor) → rest r n x c ≡ rest_after (step_of r n x c) (rest r n x)
  unfolding rest rest_in
  rest_step c = after_same c (step_of r n x c) (falls r n x c) _ _ (λ d i. enough (bound r x c) (suc (bound r x d)) d i (omega arith))

  module _ (c : Cursor) where
    pub rest_done : step_of r n x c ≡ step.Done → rest r n x c ≡ []
    rest_done e = rest_step c ∙ rw e

    pub rest_moved : {d : Cursor} → step_of r n x c ≡ step.Moved d → rest r n x c ≡ rest r n x d
    rest_moved e = rest_step c ∙ rw e

    pub rest_unit : {u : DeliveredUnit} {d : Cursor} → step_of r n x c ≡ step.Unit u d → rest r n x c ≡ unit_for u ∷ rest r n x d
    rest_unit e = rest_step c ∙ rw e

    -- less is left after a step
    pub moved_less : {d : Cursor} → step_of r n x c ≡ step.Moved d → bound r x d < bound r x c
    moved_less {d} e = let f : bound r x d + 1 ≤ bound r x c = rw e at (falls r n x c) in omega arith

    pub unit_less : {u : DeliveredUnit} {d : Cursor} → step_of r n x c ≡ step.Unit u d → bound r x d + (1 + u.span.size) ≤ bound r x c
    unit_less e = rw e at (falls r n x c)

  -- no more units and bytes of units are left than the bound
  abbrev Few : Cursor → List Delivery → Type 0
  Few c us = length us + all_size us ≤ bound r x c

  after_few : (c : Cursor) (s : Stepped) → Falls r x c s → ((d : Cursor) → bound r x d < bound r x c → Few d (rest r n x d)) → Few c (rest_after s (rest r n x))
  unfolding all_size sum
  after_few c step.Done l h = omega arith
  after_few c (step.Moved d) l h = let f = h d (omega arith) in omega arith
  after_few c (step.Unit u d) l h = let f = h d (omega arith) in omega arith

  few : (k : ℕ) (c : Cursor) → bound r x c < k → Few c (rest r n x c)
  few zero c h = absurd (omega arith)
  few (suc k) c h = rw (rest_step c) (after_few c (step_of r n x c) (falls r n x c) (λ d i. few k d (omega arith)))

  pub rest_few : (c : Cursor) → length (rest r n x c) + all_size (rest r n x c) ≤ bound r x c
  rest_few c = few (suc (bound r x c)) c (omega arith)
