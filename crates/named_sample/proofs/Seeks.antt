-- A walk over all units of a well-formed sample x that looks for an extractor at the place a. Assumes nothing.
--
--   from                                                  the extractors from p on
--   from_end, from_step, from_later                       whether a is one of them: not at the end; those after p, where a is not p; not before p
--   from_here                                             a itself, if it is an extractor
--   none_past                                             none stands past the end
--   other_unit, extractor_none, found_here                what is found at a: nothing, or the fields
--   Seeking, seeking_start, -passed, -here, -skip, -next  a loop that goes to a
use Rattle.std.specs.Prelude.{None}
use Prim.Native.Nat.{ℕ, zero, suc, ◌-◌, ◌≤◌, ◌<◌}
use mathlib.Core.Path.{◌≡◌, refl, ap, ◌∙◌}
use mathlib.Core.List.{List}
use mathlib.Core.Bool.{true, false}
use native.Mathlib.Omega.{arith}
use borrow.Author.Tests.{leb-true, leb-false, eq-eqb, ne_eqb}
use lib.Dec.{leb}
use Rattle.words.specs.Tests.{◌≡?◌}
use Rattle.words.specs.Refusals.{ok}
use Rattle.words.specs.Lists.{keep, some, has}
use Rattle.words.proofs.Tests.{by_bool}
use Rattle.words.proofs.Lists.{keep_from, has_from}
use Rattle.words.proofs.Kept.{keep_yes, keep_no}
use Rattle.units.specs.Units.{Sample, end, next, is_aggregator, is_extractor, unit_fault}
use Rattle.units.specs.Aggregators.{included_start, units, extractors}
use Rattle.units.specs.Steps.{extractor_at}
use Rattle.samples.specs.Check.{check}
use Rattle.samples.proofs.Laws.{unit_inside, extractor_step}
use Rattle.copies.specs.Flat.{flat_step, flat_places}
use Rattle.copies.proofs.Flat.{flat_aggregator, flat_other, flat_after, flat_end, flat_step_lem, sample_borders, flat_units, Walking, walking_start, walking_next}
use Rattle.named_sample.specs.Answers.{extractor_in}

module _ (x : Sample) where
  -- the extractors from p on
  abbrev pub from : ℕ → List ℕ
  from p = keep (is_extractor x) (flat_places x p (end x))

  module _ (a : ℕ) where
    from_end : (p : ℕ) → end x ≤ p → has a (from p) ≡ false
    unfolding keep some
    from_end p h = rw (flat_end x p (end x) h)

    from_step : (p : ℕ) → p < end x → (a ≡ p → ⊥) → has a (from p) ≡ has a (from (flat_step x p))
    unfolding some
    from_step p h z = by_bool (is_extractor x p)
        (λ t. rw (flat_step_lem x p (end x) h, keep_yes (is_extractor x) p (flat_places x (flat_step x p) (end x)) t, ne_eqb a p z))
        (λ t. rw (flat_step_lem x p (end x) h, keep_no (is_extractor x) p (flat_places x (flat_step x p) (end x)) t))

    from_later : (k p : ℕ) → end x - p ≤ k → a < p → has a (from p) ≡ false
    from_later zero p f h = from_end p (omega arith)
    from_later (suc k) p f h = by_bool (leb (end x) p)
        (λ t. from_end p (leb-true (end x) p t))
        (λ t.
        let l = leb-false (end x) p t in
        let s = flat_after x p in
        from_step p l (λ z. omega arith) ∙ from_later k (flat_step x p) (omega arith) (omega arith))

    from_here : a < end x → has a (from a) ≡ is_extractor x a
    unfolding some
    from_here h =
        let s = flat_after x a in
        let rest = flat_places x (flat_step x a) (end x) in
        by_bool (is_extractor x a)
        (λ t. rw (flat_step_lem x a (end x) h, keep_yes (is_extractor x) a rest t, t, eq-eqb a a refl))
        (λ t. rw (flat_step_lem x a (end x) h, keep_no (is_extractor x) a rest t, t) (from_later (end x) (flat_step x a) (omega arith) (omega arith)))

    other_unit : is_extractor x a ≡ false → extractor_at x (end x) a ≡ None
    unfolding extractor_at
    other_unit t = by_bool (unit_fault x (end x) a ≡? 0) (λ u. rw (u, t)) (λ u. rw u)

    extractor_none : has a (extractors x) ≡ false → None ≡ extractor_in x a
    unfolding extractor_in
    extractor_none t = rw t

    module _ (f : check x ≡ ok tt) where
      -- no unit stands past the end
      pub none_past : end x ≤ a → None ≡ extractor_in x a
      unfolding extractors
      none_past h = by_bool (has a (extractors x))
          (λ t. let m = keep_from (is_extractor x) (units x) (has_from a (extractors x) t) in let i = unit_inside x f a m.0 in absurd (omega arith))
          (λ t. extractor_none t)

      found_here : has a (extractors x) ≡ is_extractor x a → extractor_at x (end x) a ≡ extractor_in x a
      unfolding extractor_in
      found_here e = by_bool (is_extractor x a)
          (λ t. rw (e, t) (extractor_step x f a (has_from a (extractors x) (e ∙ t))))
          (λ t. rw (e, t) (other_unit t))

    -- it has come to p
    pub record Seeking (p : ℕ) : Type 0 where
      pub formed : check x ≡ ok tt
      pub walking : Walking x (end x) p
      pub same : has a (extractors x) ≡ has a (from p)

    pub seeking_start : check x ≡ ok tt → Seeking 0
    unfolding extractors
    seeking_start f = record {
      formed = f;
      walking = walking_start x 0 (end x) (sample_borders x f);
      same = ap (λ l. has a (keep (is_extractor x) l)) (flat_units x f);
    }

    module _ (p : ℕ) (c : Seeking p) where
      pub seeking_passed : a < p → None ≡ extractor_in x a
      seeking_passed h = extractor_none (c.same ∙ from_later (end x) p (omega arith) h)

      module _ (g : a < end x) where
        pub seeking_here : p ≡ a → extractor_at x (end x) a ≡ extractor_in x a
        seeking_here e = found_here c.formed (c.same ∙ rw e (from_here g))

        module _ (h : p < a) where
          step : Seeking (flat_step x p)
          step = record {
            formed = c.formed;
            walking = walking_next x (end x) p c.walking (omega arith);
            same = c.same ∙ from_step p (omega arith) (λ z. omega arith);
          }

          pub seeking_skip : {q : ℕ} → is_aggregator x p ≡ true → q ≡ included_start x p → Seeking q
          seeking_skip t e = rw (e, ← flat_aggregator x p t) step

          pub seeking_next : {q : ℕ} → is_aggregator x p ≡ false → q ≡ next x p → Seeking q
          seeking_next t e = rw (e, ← flat_other x p t) step
