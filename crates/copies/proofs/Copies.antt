-- Where a copy starts and ends. Assumes nothing.
--
--   starts_unit, unit_starts, starts_not  data_offset is a unit of the sample, or none
--   end_length, end_unit, end_aggregator  where a copy ends
--   ends_top, ends_included               on which borders, by its start
--   Run                                   the units that a copy starts and ends among
--   top_ends                              a top-level unit ends in the sample
--   end_zero                              what data_length 0 takes ends on a border
--   border_none                           a copy without 26 and 27 starts and ends where it may; of such a copy:
--   copy_cut, copy_most                   it lies between two borders of units, and in the sample
--   copied_flat                           its units are those of one walk over it, aggregators dropped
use Prim.Native.Nat.{ℕ, ◌+◌, ◌≤◌, ◌<◌}
use mathlib.Core.Path.{◌≡◌, refl, ap, sym, ◌∙◌, subst}
use mathlib.Core.List.{Memᴰ}
use mathlib.Core.Logic.{◌⊎◌, inl, inr, ⊎_elim}
use mathlib.Core.Bool.{true, false, not, ◌||◌, ◌&&◌}
use native.Mathlib.Omega.{arith}
use borrow.Author.Tests.{eq-eqb, ne_eqb, eqb-true, eqb-false, not-false}
use Rattle.words.specs.Tests.{◌≤?◌, ◌<?◌, ◌≡?◌}
use Rattle.words.specs.Refusals.{ok}
use Rattle.words.specs.Lists.{has}
use Rattle.words.proofs.Tests.{by_bool}
use Rattle.words.proofs.Refusals.{if_none, or_else_none}
use Rattle.words.proofs.Lists.{some_none, has_from, has_mem, is_or_from, is_or_mem}
use Rattle.words.proofs.Kept.{keep_keep}
use Rattle.units.specs.Units.{Sample, end, next, is_aggregator, places, top_units, border}
use Rattle.units.specs.Aggregators.{included_start, included, cover_end, units}
use Rattle.units.proofs.Units.{next_after}
use Rattle.units.proofs.Walks.{units_top, units_included, units_from}
use Rattle.samples.specs.Check.{check}
use Rattle.samples.proofs.Laws.{included_inside, covered_border, unit_inside}
use Rattle.copies.specs.Copies.{without_aggregators, included_border, copy_starts, copy_end, copy_ends, copied, start_fault, border_fault}
use Rattle.copies.specs.Flat.{flat_places, UnitBorder, BetweenBorders}
use Rattle.copies.proofs.Flat.{border_most, flat_between}
use Rattle.copies.proofs.Runs.{places_next, top_apart, includes_one}

module _ (z : Sample) (o : ℕ) where
  pub starts_unit : copy_starts z o ≡ true → Memᴰ o (units z)
  starts_unit h = has_from o (units z) h

  pub unit_starts : Memᴰ o (units z) → copy_starts z o ≡ true
  unit_starts m = has_mem o (units z) m

  pub starts_not : (Memᴰ o (units z) → ⊥) → copy_starts z o ≡ false
  starts_not h = by_bool (copy_starts z o) (λ t. absurd (h (starts_unit t))) (λ t. t)

module _ (z : Sample) (o n : ℕ) where
  pub end_length : (n ≡ 0 → ⊥) → copy_end z o n ≡ o + n
  unfolding copy_end
  end_length h = rw (ne_eqb n 0 h)

  pub end_unit : n ≡ 0 → is_aggregator z o ≡ false → copy_end z o n ≡ next z o
  unfolding copy_end
  end_unit h t = rw (eq-eqb n 0 h, t)

  pub end_aggregator : n ≡ 0 → is_aggregator z o ≡ true → copy_end z o n ≡ cover_end z o
  unfolding copy_end
  end_aggregator h t = rw (eq-eqb n 0 h, t)

  end_after : o < copy_end z o n
  end_after = by_bool (n ≡? 0)
      (λ t. let e = eqb-true n 0 t in let l = next_after z o in by_bool (is_aggregator z o)
      (λ g. let i = end_aggregator e g in omega arith)
      (λ g. let i = end_unit e g in omega arith))
      (λ t. let e = eqb-false n 0 t in let i = end_length e in omega arith)

  pub ends_top : Memᴰ o (top_units z) → copy_ends z o n ≡ border z (copy_end z o n)
  unfolding copy_ends
  ends_top m = rw (has_mem o (top_units z) m)

  pub ends_included : (p : ℕ) → Memᴰ p (top_units z) → is_aggregator z p ≡ true → Memᴰ o (included z p) → copy_ends z o n ≡ included_border z p (copy_end z o n)
  unfolding copy_ends
  ends_included p m t k =
      rw (some_none (λ q. o ≡? q) (top_units z) (λ q j. ne_eqb o q (λ e. top_apart z p o m k (rw e j))))
      (includes_one z (λ r. included_border z r (copy_end z o n)) p o m t k)

-- The units from a up to e, among which one starts at o.
pub record Run (z : Sample) (a e o : ℕ) : Type 0 where
  pub here : Memᴰ o (places z a e)
  pub member : (q : ℕ) → Memᴰ q (places z a e) → Memᴰ q (units z) × (next z q ≤ e)
  pub stop : UnitBorder z e
  pub ends : (n : ℕ) → copy_ends z o n ≡ ((copy_end z o n ≡? e) || has (copy_end z o n) (places z a e))

pub top_ends : (z : Sample) → check z ≡ ok tt → (p : ℕ) → Memᴰ p (top_units z) → next z p ≤ end z
top_ends z k p m = (unit_inside z k p (units_top z p m)).1

module _ (z : Sample) (k : check z ≡ ok tt) (o : ℕ) where
  run_top : Memᴰ o (top_units z) → Run z 0 (end z) o
  unfolding top_units border
  run_top m = record {
    here = m;
    member = λ q j. (units_top z q j, top_ends z k q j);
    stop = inl refl;
    ends = λ n. ends_top z o n m;
  }

  run_included : (p : ℕ) → Memᴰ p (top_units z) → is_aggregator z p ≡ true → Memᴰ o (included z p) → Run z (included_start z p) (next z p) o
  run_included p m t j = record {
    here = j;
    member = λ q i. (units_included z p q m t i, (included_inside z k p m t q i).1);
    stop = after (next z p) (unfold top_units in places_next z 0 (end z) p m (top_ends z k p m));
    ends = λ n. ends_included z o n p m t j;
  }
    where
      after : (q : ℕ) → (q ≡ end z) ⊎ Memᴰ q (top_units z) → UnitBorder z q
      after q h = ⊎_elim (λ e. inl e) (λ i. inr (units_top z q i)) h

  -- each unit stands in a run
  some_run : {G : Type 0} → copy_starts z o ≡ true → ((a e : ℕ) → Run z a e o → G) → G
  some_run s g = units_from z o (starts_unit z o s) (λ m. g 0 (end z) (run_top m)) (λ p m t j. g (included_start z p) (next z p) (run_included p m t j))

  run_border : (a e n : ℕ) → Run z a e o → copy_ends z o n ≡ true → UnitBorder z (copy_end z o n)
  run_border a e n w h = ⊎_elim
      (λ i. subst (UnitBorder z) (sym i) w.stop)
      (λ m. inr (w.member _ m).0)
      (is_or_from (copy_end z o n) e (places z a e) (sym (w.ends n) ∙ h))

  ends_border : (n : ℕ) → copy_starts z o ≡ true → copy_ends z o n ≡ true → UnitBorder z (copy_end z o n)
  ends_border n s h = some_run s (λ a e w. run_border a e n w h)

  -- what data_length 0 takes ends on a border
  pub end_zero : (n : ℕ) → copy_starts z o ≡ true → n ≡ 0 → copy_ends z o n ≡ true
  end_zero n s i = units_from z o (starts_unit z o s)
      (λ m. by_bool (is_aggregator z o)
      (λ t. ends_top z o n m ∙ rw (end_aggregator z o n i t) (covered_border z k o m t))
      (λ t. next_border 0 (end z) (run_top m) t))
      (λ p m t j. next_border (included_start z p) (next z p) (run_included p m t j) (included_inside z k p m t o j).2)
    where
      next_border : (a e : ℕ) → Run z a e o → is_aggregator z o ≡ false → copy_ends z o n ≡ true
      next_border a e w t = w.ends n ∙ rw (end_unit z o n i t) (is_or_mem (next z o) e (places z a e) (places_next z a e o w.here (w.member o w.here).1))

module _ (z : Sample) (o n : ℕ) where
  pub border_none : border_fault z o n ≡ 0 → (copy_starts z o ≡ true) × (copy_ends z o n ≡ true)
  unfolding border_fault
  border_none h =
      let a = or_else_none (start_fault z o) _ h in
      (not-false _ (if_none 25 _ a.0), not-false _ (if_none 26 _ a.1))

  -- a copy without 26 and 27
  module _ (b : border_fault z o n ≡ 0) where
    copy_unit : Memᴰ o (units z)
    copy_unit = starts_unit z o (border_none b).0

    pub copy_cut : check z ≡ ok tt → BetweenBorders z o (copy_end z o n)
    copy_cut k = record {
      formed = k;
      start = inr copy_unit;
      stop = ends_border z k o n (border_none b).0 (border_none b).1;
      order = (let a = end_after z o n in omega arith);
    }

    pub copy_most : check z ≡ ok tt → copy_end z o n ≤ end z
    copy_most k = border_most z k (copy_end z o n) (copy_cut k).stop

    pub copied_flat : check z ≡ ok tt → copied z o n ≡ without_aggregators z (flat_places z o (copy_end z o n))
    unfolding copied
    copied_flat k =
        keep_keep (λ q. (o ≤? q) && (q <? copy_end z o n)) (λ q. not (is_aggregator z q)) (units z)
        ∙ ap (without_aggregators z) (flat_between z o (copy_end z o n) (copy_cut k))
