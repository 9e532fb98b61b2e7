-- A walk over all units of sample n, which is x and well formed: what is delivered for them, and their refusals. Assumes nothing.
--
--   ahead, remaining, judged_from               the units from p on, what is delivered for them, and their first refusal
--   ahead_skip, ahead_take                      the units from p on: p, and those after it
--   remaining_end, -skip, -take, -start         what is delivered for them; at the start, all that the sample delivers
--   from_end, -skip, -take, -start              their first refusal; at the start, the refusals of the sample
--   Passing, passing_start, -skip, -take, -mem  a walk that has come to p
use Prim.Native.Nat.{ℕ, ◌≤◌, ◌<◌}
use mathlib.Core.Path.{◌≡◌, refl, ap, sym, ◌∙◌}
use mathlib.Core.List.{List, [], ◌∷◌, ◌++◌, Memᴰ}
use mathlib.Core.Bool.{true, false}
use Rattle.words.specs.Refusals.{ok, Verdict, ◌and_then◌, first}
use Rattle.words.specs.Lists.{each}
use Rattle.units.specs.Units.{Sample, end, next, is_aggregator}
use Rattle.units.specs.Aggregators.{included_start, units}
use Rattle.samples.specs.Check.{check}
use Rattle.bundles.specs.Recordings.{Recording}
use Rattle.copies.specs.Flat.{flat_places}
use Rattle.copies.proofs.Flat.{flat_aggregator, flat_other, flat_end, flat_step_lem, sample_borders, flat_units, Walking, walking_start}
use Rattle.copies.proofs.Rest.{walking_skip, walking_take}
use Rattle.resolution_rules.specs.Resolving.{own, judged}
use Rattle.resolution_rules.proofs.Delivered.{aggregator_only, unit_judge, unit_passes, extractors_units, judged_extractors}
use Rattle.delivery.specs.Deliveries.{Delivery, deliveries_at, deliveries}
use Rattle.delivery.proofs.Deliveries.{deliveries_aggregator}

module _ (r : Recording) (n : ℕ) (x : Sample) where
  abbrev pub ahead : ℕ → List ℕ
  ahead p = flat_places x p (end x)

  abbrev pub remaining : ℕ → List Delivery
  remaining p = each (deliveries_at r n) (ahead p)

  abbrev pub judged_from : ℕ → Verdict
  judged_from p = first (unit_judge r n) (ahead p)

  pub ahead_skip : (p : ℕ) → p < end x → is_aggregator x p ≡ true → ahead p ≡ p ∷ ahead (included_start x p)
  ahead_skip p h t = rw (flat_step_lem x p (end x) h, flat_aggregator x p t)

  pub ahead_take : (p : ℕ) → p < end x → is_aggregator x p ≡ false → ahead p ≡ p ∷ ahead (next x p)
  ahead_take p h t = rw (flat_step_lem x p (end x) h, flat_other x p t)

  pub remaining_end : (p : ℕ) → end x ≤ p → remaining p ≡ []
  unfolding each
  remaining_end p h = rw (flat_end x p (end x) h)

  pub remaining_take : (p : ℕ) → p < end x → is_aggregator x p ≡ false → remaining p ≡ deliveries_at r n p ++ remaining (next x p)
  unfolding each
  remaining_take p h t = rw (ahead_take p h t)

  pub from_end : (p : ℕ) → end x ≤ p → judged_from p ≡ ok tt
  unfolding first
  from_end p h = rw (flat_end x p (end x) h)

  pub from_take : (p : ℕ) → p < end x → is_aggregator x p ≡ false → judged_from p ≡ (unit_judge r n p and_then judged_from (next x p))
  unfolding first
  from_take p h t = rw (ahead_take p h t)

  -- a walk over all units that has come to p
  pub record Passing (p : ℕ) : Type 0 where
    pub same : x ≡ own r n
    pub formed : check x ≡ ok tt
    pub walking : Walking x (end x) p
    pub mem : (q : ℕ) → Memᴰ q (ahead p) → Memᴰ q (units x)

  pub passing_start : x ≡ own r n → check x ≡ ok tt → Passing 0
  passing_start e f = record { same = e; formed = f; walking = walking_start x 0 (end x) (sample_borders x f); mem = λ q m. rw (flat_units x f) m }

  pub remaining_start : x ≡ own r n → check x ≡ ok tt → remaining 0 ≡ deliveries r n
  unfolding deliveries
  remaining_start e f = ap (each (deliveries_at r n)) (sym (flat_units x f)) ∙ rw e

  pub from_start : x ≡ own r n → check x ≡ ok tt → judged_from 0 ≡ judged r n
  from_start e f = sym (judged_extractors r n (rw e at f) ∙ extractors_units r n ∙ rw (← e) (ap (first (unit_judge r n)) (flat_units x f)))

  module _ (p : ℕ) (w : Passing p) (h : p < end x) where
    pub remaining_skip : is_aggregator x p ≡ true → remaining p ≡ remaining (included_start x p)
    unfolding each
    remaining_skip t = rw (ahead_skip p h t, deliveries_aggregator r n p (rw w.same at t))

    pub from_skip : is_aggregator x p ≡ true → judged_from p ≡ judged_from (included_start x p)
    unfolding first
    from_skip t = rw (ahead_skip p h t, unit_passes r n p (aggregator_only (own r n) p (rw w.same at t)))

    pub passing_skip : is_aggregator x p ≡ true → Passing (included_start x p)
    passing_skip t = record { same = w.same; formed = w.formed; walking = walking_skip x (end x) p w.walking h t; mem = λ q m. w.mem q (rw (ahead_skip p h t) (Memᴰ.tail m)) }

    module _ (t : is_aggregator x p ≡ false) where
      pub passing_take : Passing (next x p)
      passing_take = record { same = w.same; formed = w.formed; walking = walking_take x (end x) p w.walking h t; mem = λ q m. w.mem q (rw (ahead_take p h t) (Memᴰ.tail m)) }

      pub passing_mem : Memᴰ p (units x)
      passing_mem = w.mem p (rw (ahead_take p h t) (Memᴰ.head refl))
