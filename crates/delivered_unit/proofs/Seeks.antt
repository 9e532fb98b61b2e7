-- A unit found by its number. Assumes nothing.
--
--   Seeks, seeks_start                   the ith unit is the one at left after those passed
--   seeks_take, seeks_found, seeks_none  one unit more; the unit at hand; there is none
use Prim.Native.Nat.{ℕ, suc, ◌+◌, ◌-◌, ◌<◌}
use mathlib.Core.Path.{◌≡◌, refl}
use mathlib.Core.List.{List, [], ◌∷◌, ◌++◌}
use native.Mathlib.Omega.{arith}
use lib.ListN.{length, get_or, length-append}
use Rattle.words.specs.Refusals.{ok}
use Rattle.words.specs.Lists.{nth}
use Rattle.units.specs.Units.{Sample}
use Rattle.bundles.specs.Recordings.{Recording}
use Rattle.words.proofs.Rows.{nth_beyond}
use Rattle.resolution_rules.specs.Resolving.{own, judged}
use Rattle.delivery.specs.Steps.{start, step_of}
use Rattle.delivery.specs.Deliveries.{Delivery, unit_for, deliveries, no_delivery}
use Rattle.delivery.specs.declared.Cursor.{Cursor}
use Rattle.delivery.specs.declared.DeliveredUnit.{DeliveredUnit}
use Rattle.delivery.specs.declared.Stepped.TheVariants as step
use Rattle.delivery.proofs.Rests.{rest}
use Rattle.delivery.proofs.Folds.{Folded, folded_start, folded_unit, folded_split, folded_done}

get_at : (us : List Delivery) (u : Delivery) (vs : List Delivery) (d : Delivery) → get_or (us ++ (u ∷ vs)) (length us) d ≡ u
get_at [] u vs d = refl
get_at (a ∷ us) u vs d = get_at us u vs d

nth_at : (us : List Delivery) (u : Delivery) (vs : List Delivery) (i : ℕ) (d : Delivery) → i ≡ suc (length us) → nth (us ++ (u ∷ vs)) i d ≡ u
unfolding nth
nth_at us u vs i d e = rw e (get_at us u vs d)

abbrev pub Seeks : ℕ → ℕ → List Delivery → Type 0
Seeks i left us = (0 < left) × (left + length us ≡ i)

module _ (r : Recording) (n : ℕ) (x : Sample) (i : ℕ) where
  pub seeks_start : 0 < i → Folded r n x (Seeks i i) start
  seeks_start h = folded_start r n x (Seeks i i) (h, omega arith)

  module _ (left : ℕ) (c : Cursor) (w : Folded r n x (Seeks i left) c) where
    pub seeks_take : {u : DeliveredUnit} {d : Cursor} → step_of r n x c ≡ step.Unit u d → (left - 1 ≡ 0 → ⊥) → Folded r n x (Seeks i (left - 1)) d
    seeks_take {u} e h =
        let k = w.holds in
        let l = length-append w.us (unit_for u ∷ []) in
        folded_unit r n x (Seeks i left) c w (Seeks i (left - 1)) (omega arith, omega arith) e

    module _ (same : x ≡ own r n) (good : judged r n ≡ ok tt) where
      pub seeks_none : step_of r n x c ≡ step.Done → nth (deliveries r n) i no_delivery ≡ no_delivery
      seeks_none e =
          let h = folded_done r n x (Seeks i left) c w same good e in
          nth_beyond (deliveries r n) i no_delivery (omega arith)

      pub seeks_found : {u : DeliveredUnit} {d : Cursor} → step_of r n x c ≡ step.Unit u d → left - 1 ≡ 0 → nth (deliveries r n) i no_delivery ≡ unit_for u
      seeks_found {u} {d} e z =
          let k = w.holds in
          rw (folded_split r n x (Seeks i left) c w same good e) (nth_at w.us (unit_for u) (rest r n x d) i no_delivery (omega arith))
