-- What is left of a walk between two borders, aggregators dropped, and what a loop has done before. Assumes nothing.
--
--   rest                                   the units from p up to e, aggregators dropped
--   rest_end, rest_skip, rest_take         none; those after an aggregator's head; p and those after it
--   walking_skip, walking_take             the walk goes on after an aggregator's head, or after another unit
--   walking_never                          on its way there is always a unit
use Prim.Native.Nat.{ℕ, ◌≤◌, ◌<◌}
use mathlib.Core.Path.{◌≡◌}
use mathlib.Core.List.{List, [], ◌∷◌}
use mathlib.Core.Bool.{true, false}
use native.Mathlib.Omega.{arith}
use Rattle.words.specs.Lists.{keep}
use Rattle.units.specs.Units.{Sample, next, is_aggregator}
use Rattle.units.specs.Aggregators.{included_start}
use Rattle.unit_steps.specs.Items.{item_at}
use Rattle.unit_steps.specs.declared.Item.TheVariants.{Nothing}
use Rattle.unit_steps.proofs.Items.{nothing_is}
use Rattle.copies.specs.Flat.{units_between}
use Rattle.copies.proofs.Flat.{flat_aggregator, flat_other, flat_end, flat_step_lem, Walking, walking_whole, walking_next}

module _ (x : Sample) where
  abbrev pub rest : ℕ → ℕ → List ℕ
  rest e p = units_between x p e

  pub rest_end : (e p : ℕ) → e ≤ p → rest e p ≡ []
  unfolding keep
  rest_end e p h = rw (flat_end x p e h)

  pub rest_skip : (e p : ℕ) → p < e → is_aggregator x p ≡ true → rest e p ≡ rest e (included_start x p)
  unfolding keep
  rest_skip e p h t = rw (flat_step_lem x p e h, flat_aggregator x p t, t)

  pub rest_take : (e p : ℕ) → p < e → is_aggregator x p ≡ false → rest e p ≡ p ∷ rest e (next x p)
  unfolding keep
  rest_take e p h t = rw (flat_step_lem x p e h, flat_other x p t, t)

  module _ (e p : ℕ) (w : Walking x e p) (h : p < e) where
    pub walking_skip : is_aggregator x p ≡ true → Walking x e (included_start x p)
    walking_skip t = rw (flat_aggregator x p t) at (walking_next x e p w h)

    pub walking_take : is_aggregator x p ≡ false → Walking x e (next x p)
    walking_take t = rw (flat_other x p t) at (walking_next x e p w h)

    pub walking_never : {G : Type 0} → item_at x p ≡ Nothing → G
    walking_never i = let n = nothing_is x p i in let u = (walking_whole x e p w h).inside in absurd (omega arith)
