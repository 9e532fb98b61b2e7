-- Units that are no aggregators do not overlap, so their sizes add to no more than the bytes that they stand in. For any L. Assumes nothing.
--
--   units_apart                    in a well-formed sample each unit that is no aggregator ends before the next one starts
--   sizes_fit                      units that do not overlap, with their length fields, fit where they stand
--   copied_apart, copied_size_lem  so do those of a copy
use Prim.Native.Nat.{ℕ, ◌+◌, ◌-◌, ◌≤◌}
use mathlib.Core.Path.{◌≡◌, refl}
use mathlib.Core.List.Memᴰ
use mathlib.Core.List.{List, [], ◌∷◌, map, Memᴰ}
use mathlib.Core.Logic.{⊎_elim}
use mathlib.Core.Bool.{Bool, not}
use native.Mathlib.Omega.{arith}
use Rattle.words.specs.Refusals.{ok}
use Rattle.words.specs.Lists.{keep, sum}
use Rattle.words.proofs.Tests.{by_bool}
use Rattle.words.proofs.Lists.{keep_from, Rising, rising_keep, rising_each}
use Rattle.units.specs.Units.{Sample, L, end, size, next, is_aggregator, top_units}
use Rattle.units.specs.Aggregators.{included_start, included, with_included, units}
use Rattle.units.proofs.Walks.{Before, in_unit, top_rise, places_rise}
use Rattle.samples.specs.Check.{check}
use Rattle.samples.proofs.Laws.{included_inside, unit_inside}
use Rattle.copies.specs.Copies.{without_aggregators, copied}
use Rattle.copies.specs.Rules.{CopyRules}
use Rattle.words.proofs.Kept.{keep_no, keep_each, rising_and}
use Rattle.copies.proofs.Copied.{copied_exact, copied_unit_lem}

module _ (z : Sample) where
  no_head : ℕ → Bool
  no_head p = not (is_aggregator z p)

  delivered_with : ℕ → List ℕ
  delivered_with p = keep no_head (with_included z p)

  with_apart : (p : ℕ) → Rising (Before z) (delivered_with p)
  unfolding delivered_with with_included no_head
  with_apart p = by_bool (is_aggregator z p)
      (λ t. rw (t, keep_no no_head p (included z p) (rw t)) (rising_keep (Before z) no_head (included z p) (places_rise z (included_start z p) (next z p))))
      (λ t. rw t (rising_keep (Before z) no_head (p ∷ []) ((λ q m. absurd (Memᴰ.not-nil m)), tt)))

  module _ (e : check z ≡ ok tt) where
    with_inside : (p a : ℕ) → Memᴰ p (top_units z) → Memᴰ a (delivered_with p) → next z a ≤ next z p
    unfolding delivered_with with_included
    with_inside p a m k = ⊎_elim
        (λ q. rw q (omega arith))
        (λ j. by_bool (is_aggregator z p)
        (λ t. (included_inside z e p m t a (rw t at j)).1)
        (λ t. absurd (Memᴰ.not-nil (rw t at j))))
        (Memᴰ.cases_cons (keep_from no_head (with_included z p) k).0)

    with_from : (p b : ℕ) → Memᴰ b (delivered_with p) → p ≤ b
    unfolding delivered_with
    with_from p b k = (in_unit z p b (keep_from no_head (with_included z p) k).0).0

    pub units_apart : Rising (Before z) (without_aggregators z (units z))
    unfolding units delivered_with no_head
    units_apart =
        rw (keep_each no_head (with_included z) (top_units z))
        (rising_each (λ p q. Before z p q × Memᴰ p (top_units z)) (Before z) delivered_with (top_units z)
        (rising_and (Before z) (λ p. Memᴰ p (top_units z)) (top_units z) (λ p m. m) (top_rise z))
        with_apart
        (λ p q a b h m n. let i = with_inside p a h.1 m in let j = with_from q b n in omega (arith, h.0)))

  -- units that do not overlap, from a up to b
  pub sizes_fit : (a b : ℕ) (ps : List ℕ) → a ≤ b → Rising (Before z) ps → ((p : ℕ) → Memᴰ p ps → (a ≤ p) × (next z p ≤ b)) → sum (map (λ p. L z + size z p) ps) ≤ b - a
  unfolding sum
  sizes_fit a b [] l r h = omega arith
  sizes_fit a b (p ∷ ps) l r h =
      let i = h p (Memᴰ.head refl) in
      let below = sizes_fit (next z p) b ps i.1 r.1 (λ q m. (r.0 q m, (h q (Memᴰ.tail m)).1)) in
      omega arith

  module _ (o n : ℕ) (c : CopyRules z o n) where
    pub copied_apart : Rising (Before z) (copied z o n)
    copied_apart = rw (copied_exact z o n) (rising_keep (Before z) _ (without_aggregators z (units z)) (units_apart c.formed))

    pub copied_size_lem : sum (map (λ q. L z + size z q) (copied z o n)) ≤ end z
    copied_size_lem =
        let h = sizes_fit 0 (end z) (copied z o n) (omega arith) copied_apart (λ q m. (omega arith, (unit_inside z c.formed q (copied_unit_lem z o n q m).0).1)) in
        omega arith
