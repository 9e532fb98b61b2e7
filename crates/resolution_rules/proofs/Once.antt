-- Every unit is delivered once, in its place. The idea: the places of all units of a sample strictly rise. Assumes nothing.
--
--   in_its_place       what is delivered for a unit stands once: after that of all units before it, before that of all after it
--   own_delivered      what is delivered of the sample itself
--   unit_once          a unit that is neither an aggregator nor an extractor is delivered once
--   covered_once       also one that an aggregator covers by reference
--   included_once      also one that an aggregator includes
--   different_apart    where references join different tracks no extractor of a good sample names its own sample
use Prim.Native.Nat.{ℕ, ◌+◌, ◌<◌}
use mathlib.Core.Path.{◌≡◌, refl, ap, sym, ◌∙◌}
use mathlib.Core.List.Memᴰ
use mathlib.Core.List.{[], ◌∷◌, ◌++◌, map, Memᴰ}
use mathlib.Core.Bool.{Bool, true, false}
use native.Mathlib.Omega.{arith}
use borrow.Author.Tests.{eq-eqb, ne_eqb, eqb-true, eqb-false, leb-true, ltb-true}
use lib.Dec.{eqb}
use lib.ListN.{length}
use Rattle.words.specs.Tests.{pick, ◌<?◌, ◌≡?◌}
use Rattle.words.specs.Lists.{keep, each}
use Rattle.words.proofs.Tests.{by_bool, and_both}
use Rattle.words.proofs.Lists.{each_append, each_cong, keep_mem, keep_from, keep_nothing, keep_cong, rising_keep}
use Rattle.units.specs.Units.{L, next, is_aggregator, is_extractor, top_units, top_between}
use Rattle.units.specs.Extractors.{track_ref_index, data_offset, data_length}
use Rattle.units.specs.Aggregators.{cover_end, included, units}
use Rattle.units.proofs.Walks.{units_rise, units_top, units_included}
use Rattle.samples.proofs.Laws.{covered_clear, included_inside}
use Rattle.bundles.specs.Recordings.{Recording, track_of}
use Rattle.links.proofs.Links.{in_track, link_good, linked_reference}
use Rattle.copies.specs.Copies.{copied}
use Rattle.words.proofs.Kept.{keep_each, each_keep, keep_yes}
use Rattle.resolution_rules.specs.Resolving.{Span, span_of, spans_of, own, named, linked, copied_at, delivered_at, delivered}
use Rattle.resolution_rules.specs.Amounts.{delivers_itself}
use Rattle.resolution_rules.specs.Readers.{DifferentTracks}
use Rattle.resolution_rules.specs.Rules.{Good, Apart, times_delivered}
use Rattle.words.proofs.Joined.{keep_and, each_single, map_keep, keep_one, rising_cut}
use Rattle.resolution_rules.proofs.Delivered.{delivered_unit_lem, delivered_aggregator, delivered_extractor}
use Rattle.resolution_rules.proofs.Exactly.{extractor_mem}

module _ (r : Recording) (n : ℕ) where
  pub in_its_place : (q : ℕ) → Memᴰ q (units (own r n)) →
      delivered r n ≡ each (delivered_at r n) (keep (λ p. p <? q) (units (own r n))) ++ (delivered_at r n q ++ each (delivered_at r n) (keep (λ p. q <? p) (units (own r n))))
  unfolding delivered each
  in_its_place q m =
      ap (each (delivered_at r n)) (rising_cut q (units (own r n)) (units_rise (own r n)) m)
      ∙ each_append (delivered_at r n) (keep (λ p. p <? q) (units (own r n))) (q ∷ keep (λ p. q <? p) (units (own r n)))

  abbrev from_own : Span → Bool
  from_own u = u.sample ≡? n

  other_none : (p : ℕ) → (named r n p ≡ n → ⊥) → keep from_own (copied_at r n p) ≡ []
  unfolding copied_at
  other_none p h = keep_nothing from_own (copied_at r n p) (λ u m.
      let w = Memᴰ.of_map (span_of (named r n p) (linked r n p)) (copied (linked r n p) (data_offset (own r n) p) (data_length (own r n) p)) m in
      rw (← w.2) (ne_eqb (named r n p) n h))

  one_own : Apart r n → (p : ℕ) → Memᴰ p (units (own r n)) → keep from_own (delivered_at r n p) ≡ pick (delivers_itself r n p) (span_of n (own r n) p ∷ []) []
  one_own h p m =
      by_bool (is_aggregator (own r n) p)
      (λ a. rw (delivered_aggregator r n p a, a) (unfold keep in refl))
      (λ a. by_bool (is_extractor (own r n) p)
      (λ e. rw (delivered_extractor r n p e, a, e) (other_none p (h p (extractor_mem r n p m e))))
      (λ e. rw (delivered_unit_lem r n p a e, a, e) (keep_yes from_own (span_of n (own r n) p) [] (eq-eqb n n refl) ∙ ap (λ l. span_of n (own r n) p ∷ l) (unfold keep in refl))))

  -- what is delivered of the sample itself
  pub own_delivered : Apart r n → keep from_own (delivered r n) ≡ spans_of n (own r n) (keep (delivers_itself r n) (units (own r n)))
  unfolding delivered
  own_delivered h =
      keep_each from_own (delivered_at r n) (units (own r n))
      ∙ each_cong _ _ (units (own r n)) (one_own h)
      ∙ sym (each_keep (λ p. span_of n (own r n) p ∷ []) (delivers_itself r n) (units (own r n)))
      ∙ each_single (span_of n (own r n)) (keep (delivers_itself r n) (units (own r n)))

  pub unit_once : Apart r n → (q : ℕ) → Memᴰ q (units (own r n)) → is_aggregator (own r n) q ≡ false → is_extractor (own r n) q ≡ false → times_delivered r n q ≡ 1
  unit_once h q m a e =
      let at_start : Span → Bool = λ u. u.start ≡? q + L (own r n) in
      let ps = keep (delivers_itself r n) (units (own r n)) in
      let one : keep (λ p. p ≡? q) ps ≡ q ∷ [] = keep_one q ps (rising_keep ◌<◌ (delivers_itself r n) (units (own r n)) (units_rise (own r n))) (keep_mem (delivers_itself r n) (units (own r n)) m (rw (a, e))) in
      let starts : keep (λ p. (p + L (own r n)) ≡? q + L (own r n)) ps ≡ keep (λ p. p ≡? q) ps = keep_cong _ _ ps (λ p. same_start p q (L (own r n))) in
      ap length (keep_and from_own at_start (delivered r n) ∙ ap (keep at_start) (own_delivered h) ∙ map_keep at_start (span_of n (own r n)) ps ∙ ap (map (span_of n (own r n))) (starts ∙ one))
    where
      same_start : (p q l : ℕ) → ((p + l) ≡? q + l) ≡ (p ≡? q)
      same_start p q l = by_bool (eqb p q)
          (λ t. let z = eqb-true p q t in rw t (eq-eqb (p + l) (q + l) (omega arith)))
          (λ t. let z = eqb-false p q t in rw t (ne_eqb (p + l) (q + l) (λ k. z (omega arith))))

  module _ (g : Good r n) (h : Apart r n) (p : ℕ) (m : Memᴰ p (top_units (own r n))) (t : is_aggregator (own r n) p ≡ true) where
    -- covered by additional_bytes
    pub covered_once : (q : ℕ) → Memᴰ q (top_between (own r n) (next (own r n) p) (cover_end (own r n) p)) → is_extractor (own r n) q ≡ false → times_delivered r n q ≡ 1
    unfolding top_between
    covered_once q k e =
        let c = keep_from _ (top_units (own r n)) k in
        let b = and_both _ _ c.1 in
        unit_once h q (units_top (own r n) q c.0) (covered_clear (own r n) g.formed p m t q c.0 (leb-true _ _ b.0) (ltb-true _ _ b.1)) e

    pub included_once : (q : ℕ) → Memᴰ q (included (own r n) p) → is_extractor (own r n) q ≡ false → times_delivered r n q ≡ 1
    included_once q k e = unit_once h q (units_included (own r n) p q m t k) (included_inside (own r n) g.formed p m t q k).2 e

pub different_apart : (r : Recording) → DifferentTracks r.layout → (n : ℕ) → Good r n → Apart r n
different_apart r different n g p m z =
    let x = g.extracts p m in
    let i = x.index in
    let k = linked_reference r.layout n (track_ref_index (own r n) p) (link_good r.layout n (track_ref_index (own r n) p) i.0 i.1) in
    let t = in_track r.layout n _ _ x.there in
    different k.reference k.there (k.from ∙ ap (track_of r.layout) (sym z) ∙ t.2 ∙ sym k.to)
