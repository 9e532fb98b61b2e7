-- What becomes of a unit, by what the code finds. Assumes nothing.
--
--   inside_bad                                         whether an aggregator's included units have a fault
--   dropped_aggregator, dropped_other                  when a unit is dropped, by its type
--   other_dropped, other_kept                          the fate of a unit that is no aggregator
--   inside_dropped, loses_zeroed, stays_kept           the fate of an aggregator
--   loses_fault, loses_past                            an aggregator with a 21; whose additional_bytes go past the end
--   Losing, losing_start, -next, -found, -fault, -end  the walk over what an aggregator covers
use Prim.Native.Nat.{ℕ, ◌≤◌, ◌<◌}
use mathlib.Core.Path.{◌≡◌, refl, sym, ◌∙◌}
use mathlib.Core.List.Memᴰ
use mathlib.Core.Logic.{⊎_elim}
use mathlib.Core.Bool.{Bool, true, false, not}
use native.Mathlib.Omega.{arith}
use borrow.Author.Tests.{leb-true, le-leb, lt-ltb, ltb-true, eqb-true, eqb-false}
use Rattle.words.specs.Tests.{◌<?◌, ◌≤?◌, ◌≡?◌}
use Rattle.words.specs.RefusalNumbers.{bad_additional_bytes}
use Rattle.words.specs.Refusals.{◌at_place◌, first, passed}
use Rattle.words.specs.Lists.{some, ◌∈◌}
use Rattle.words.proofs.Tests.{by_bool, and_both}
use Rattle.words.proofs.Refusals.{at_none, at_refused}
use Rattle.words.proofs.Lists.{keep_mem, keep_from, some_mem, some_none}
use Rattle.units.specs.Units.{Sample, end, next, is_aggregator, top_units, top_between}
use Rattle.units.specs.Extractors.{extractor_fault}
use Rattle.units.specs.Aggregators.{included, included_fault, cover_end, cover_fault}
use Rattle.units.specs.Rules.{TopUnitsWhole}
use Rattle.units.proofs.Walks.{places_step, in_places, reached_mem, border_past}
use Rattle.units.proofs.Covers.{Aggregator, Covering, covering_start, covering_next, covering_found, covering_end, covering_past, cover_bad}
use Rattle.samples.specs.Check.{inside_verdict}
use Rattle.salvage_rules.specs.declared.Fate.TheVariants.{Kept, Dropped, Zeroed}
use Rattle.salvage_rules.specs.Salvage.{is_dropped, loses_cover, fate}
use Rattle.salvage_rules.proofs.Units.{fate_dropped, fate_zeroed, fate_kept, cover_other, cover_stays}

module _ (x : Sample) where
  abbrev pub inside_bad : ℕ → Bool
  inside_bad p = not (passed (first (λ q. included_fault x (next x p) q at_place q) (included x p)))

  dropped_aggregator : (p : ℕ) → is_aggregator x p ≡ true → is_dropped x p ≡ inside_bad p
  unfolding is_dropped inside_verdict
  dropped_aggregator p t = rw t

  dropped_other : (p : ℕ) → is_aggregator x p ≡ false → (extractor_fault x p ≡ 0 → ⊥) → is_dropped x p ≡ true
  unfolding is_dropped inside_verdict
  dropped_other p t h = rw (t, at_refused p refl h)

  spared_other : (p : ℕ) → is_aggregator x p ≡ false → extractor_fault x p ≡ 0 → is_dropped x p ≡ false
  unfolding is_dropped inside_verdict
  spared_other p t h = rw (t, at_none p h)

  -- a unit that is no aggregator
  pub other_dropped : (p : ℕ) → is_aggregator x p ≡ false → (extractor_fault x p ≡ 0 → ⊥) → fate x p ≡ Dropped
  other_dropped p t h = fate_dropped x p (dropped_other p t h)

  pub other_kept : (p : ℕ) → is_aggregator x p ≡ false → extractor_fault x p ≡ 0 → fate x p ≡ Kept
  other_kept p t h = fate_kept x p (spared_other p t h) (cover_other x p t)

  -- an aggregator
  module _ (p : ℕ) (t : is_aggregator x p ≡ true) where
    pub inside_dropped : inside_bad p ≡ true → fate x p ≡ Dropped
    inside_dropped h = fate_dropped x p (dropped_aggregator p t ∙ h)

    pub loses_zeroed : inside_bad p ≡ false → loses_cover x p ≡ true → fate x p ≡ Zeroed
    loses_zeroed h l = fate_zeroed x p (dropped_aggregator p t ∙ h) l

    pub stays_kept : inside_bad p ≡ false → loses_cover x p ≡ false → fate x p ≡ Kept
    stays_kept h l = fate_kept x p (dropped_aggregator p t ∙ h) l

    loses_fault : cover_fault x p ≡ bad_additional_bytes → loses_cover x p ≡ true
    unfolding loses_cover
    loses_fault e = rw (t, e)

    pub loses_past : end x < cover_end x p → loses_cover x p ≡ true
    loses_past h = loses_fault (cover_bad x p (border_past x (cover_end x p) h))

    loses_dropped : (q : ℕ) → q ∈ top_between x (next x p) (cover_end x p) → is_dropped x q ≡ true → loses_cover x p ≡ true
    unfolding loses_cover
    loses_dropped q m d = rw (t, some_mem (is_dropped x) (top_between x (next x p) (cover_end x p)) m d) (by_bool (cover_fault x p ≡? 0) (λ u. rw u) (λ u. rw u))

    -- The walk over what it covers, from its end a up to b, now at q.
    pub record Losing (a b q : ℕ) : Type 0 where
      pub covering : Covering x p a b q
      pub spared : (u : ℕ) → u ∈ top_units x → a ≤ u → u < q → is_dropped x u ≡ false

    pub losing_start : (b : ℕ) → TopUnitsWhole x → Aggregator x p → b ≡ cover_end x p → b ≤ end x → Losing (next x p) b (next x p)
    losing_start b w g s f = record { covering = covering_start x p b w g s f; spared = λ u m l k. absurd (omega arith) }

    module _ (a b q : ℕ) (c : Losing a b q) where
      pub losing_next : q < b → is_aggregator x q ≡ false → extractor_fault x q ≡ 0 → Losing a b (next x q)
      losing_next h n e =
          let r = c.covering.reached in
          let i : q < end x = omega (arith, c.covering.fits) in
          record {
            covering = covering_next x p a b q c.covering h n;
            spared = λ u m l k. ⊎_elim
                (λ d. c.spared u m l (r.below u d))
                (λ d. ⊎_elim (λ z. rw z (spared_other q n e)) (λ d'. let o = in_places x _ _ u d' in absurd (omega arith)) (Memᴰ.cases_cons (rw (places_step x q (end x) i) at d)))
                (Memᴰ.append_cases r.done (rw r.split at m));
          }

      pub losing_found : q < b → is_aggregator x q ≡ true → loses_cover x p ≡ true
      losing_found h n = loses_fault (covering_found x p a b q c.covering h n)

      between : q < b → q ∈ top_between x (next x p) (cover_end x p)
      unfolding top_between
      between h =
          let w = c.covering in
          keep_mem _ (top_units x) (reached_mem x q w.reached (omega (arith, w.fits))) (rw (le-leb (next x p) q (omega (arith, w.start, w.from)), lt-ltb q (cover_end x p) (omega (arith, w.stop))))

      pub losing_fault : q < b → is_aggregator x q ≡ false → (extractor_fault x q ≡ 0 → ⊥) → loses_cover x p ≡ true
      losing_fault h n e = loses_dropped q (between h) (dropped_other q n e)

      none_lost : q ≡ b → some (is_dropped x) (top_between x (next x p) (cover_end x p)) ≡ false
      unfolding top_between
      none_lost e = some_none (is_dropped x) (top_between x (next x p) (cover_end x p)) (λ u m.
          let k = keep_from _ (top_units x) m in
          let i = and_both (next x p ≤? u) (u <? cover_end x p) k.1 in
          let l = leb-true (next x p) u i.0 in
          let r = ltb-true u (cover_end x p) i.1 in
          c.spared u k.0 (omega (arith, c.covering.start)) (omega (arith, c.covering.stop)))

      pub losing_end : b ≤ q → not (q ≡? b) ≡ loses_cover x p
      losing_end h = by_bool (q ≡? b)
          (λ u. let e = eqb-true q b u in rw u (sym (cover_stays x p (covering_end x p a b q c.covering e) (none_lost e))))
          (λ u. rw u (sym (loses_fault (covering_past x p a b q c.covering h (eqb-false q b u)))))
