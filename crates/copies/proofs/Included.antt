-- A copy from a unit that an aggregator includes. Assumes nothing.
--
--   included_part     the units of a sample from such a unit up to the aggregator's end at most are those that it includes there
--   included_one      from such a unit up to the next one: itself
--   included_unit     such a unit is a unit of the sample, and no aggregator
use Prim.Native.Nat.{ℕ, ◌≤◌}
use mathlib.Core.Path.{◌≡◌, ap, sym, ◌∙◌}
use mathlib.Core.List.{[], ◌∷◌, Memᴰ}
use mathlib.Core.Logic.{inl}
use mathlib.Core.Bool.{true, false, not, ◌&&◌}
use native.Mathlib.Omega.{arith}
use Rattle.words.specs.Tests.{◌≤?◌, ◌<?◌}
use Rattle.words.specs.Refusals.{ok}
use Rattle.words.specs.Lists.{keep}
use Rattle.words.proofs.Lists.{keep_from}
use Rattle.words.proofs.Kept.{keep_all, keep_keep}
use Rattle.units.specs.Units.{Sample, end, next, is_aggregator, top_units}
use Rattle.units.specs.Aggregators.{included_start, included, units}
use Rattle.units.proofs.Units.{next_after, whole_aggregator}
use Rattle.units.proofs.Walks.{units_included}
use Rattle.samples.specs.Check.{check}
use Rattle.samples.proofs.Laws.{rules, included_inside}
use Rattle.copies.specs.Copies.{without_aggregators}
use Rattle.copies.specs.Flat.{flat_places}
use Rattle.copies.proofs.Copies.{top_ends}
use Rattle.copies.proofs.Flat.{flat_other, flat_end, flat_step_lem, flat_part, flat_run, flat_units}

module _ (z : Sample) (k : check z ≡ ok tt) (p : ℕ) (m : Memᴰ p (top_units z)) (t : is_aggregator z p ≡ true) where
  included_flat : flat_places z (included_start z p) (next z p) ≡ included z p
  included_flat =
      flat_run z (included_start z p) (next z p) (whole_aggregator z (end z) p ((rules z k).tops p m) t)
      (λ q j. let i = included_inside z k p m t q j in (i.1, i.2))

  module _ (o : ℕ) (j : Memᴰ o (included z p)) where
    pub included_unit : Memᴰ o (units z) × (is_aggregator z o ≡ false)
    included_unit = (units_included z p o m t j, (included_inside z k p m t o j).2)

    part : (e : ℕ) → e ≤ next z p → keep (λ q. (o ≤? q) && (q <? e)) (included z p) ≡ flat_places z o e
    part e l = rw (← included_flat) (flat_part z (included_start z p) (next z p) o e (inl (rw included_flat j)) l)

    pub included_part : (e : ℕ) → e ≤ next z p → keep (λ q. (o ≤? q) && (q <? e)) (without_aggregators z (units z)) ≡ keep (λ q. (o ≤? q) && (q <? e)) (included z p)
    included_part e l =
        let u = flat_units z k in
        let h = top_ends z k p m in
        keep_keep (λ q. (o ≤? q) && (q <? e)) (λ q. not (is_aggregator z q)) (units z)
        ∙ ap (without_aggregators z) (rw u (flat_part z 0 (end z) o e (inl (rw (← u) included_unit.0)) (omega arith)) ∙ sym (part e l))
        ∙ keep_all (λ q. not (is_aggregator z q)) (keep (λ q. (o ≤? q) && (q <? e)) (included z p))
        (λ q i. rw (included_inside z k p m t q (keep_from _ (included z p) i).0).2)

    pub included_one : keep (λ q. (o ≤? q) && (q <? next z o)) (included z p) ≡ o ∷ []
    included_one =
        let n = next_after z o in
        part (next z o) (included_inside z k p m t o j).1
        ∙ flat_step_lem z o (next z o) n
        ∙ ap (λ l. o ∷ l) (rw (flat_other z o included_unit.1) (flat_end z (next z o) (next z o) (omega arith)))
