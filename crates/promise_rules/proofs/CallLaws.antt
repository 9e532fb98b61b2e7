-- The proofs of what Demands says of the calls that resolve. Assumes nothing.
use Prim.Native.Nat.{ℕ, zero, suc, ◌+◌, ◌≤◌, ◌<◌}
use mathlib.Core.Path.{◌≡◌, refl, ap, sym, ◌∙◌, subst}
use mathlib.Core.Bool.{◌&&◌}
use mathlib.Core.List.Memᴰ
use mathlib.Core.List.{List, [], ◌∷◌, ◌++◌, map}
use mathlib.Core.Logic.{◌⊎◌, inl, inr, ⊎_elim, ◌↔◌}
use native.Mathlib.Omega.{arith}
use borrow.Author.Tests.{ltb-true, ltb-false, lt-ltb, le-leb, eqb-true, eqb-false, ne_eqb, eq-eqb}
use lib.ListN.{length, get_or, length-take, get_or-eq_default}
use Rattle.words.specs.Tests.{◌<?◌, ◌≡?◌}
use Rattle.words.specs.Refusals.{ok}
use Rattle.words.specs.Lists.{◌∈◌, each, keep, nth}
use Rattle.words.specs.Bytes.{Bytes, byte_at, part}
use Rattle.words.proofs.Tests.{by_bool}
use Rattle.words.proofs.Refusals.{ok_same}
use Rattle.words.proofs.Lists.{nth_mem, keep_mem, keep_from, Rising}
use Rattle.words.proofs.Rows.{get_d_mem}
use Rattle.words.proofs.Joined.{part_byte, part_part}
use Rattle.units.specs.Units.{L, type, next, is_aggregator, is_extractor, top_units, top_between}
use Rattle.units.specs.Extractors.{track_ref_index, sample_offset}
use Rattle.units.specs.Aggregators.{additional_bytes, units, extractors}
use Rattle.bundles.specs.Recordings.{Recording, sample_count, content_of}
use Rattle.bundles.specs.Readers.{first_layout}
use Rattle.links.specs.Order.{TimesRise}
use Rattle.resolution_rules.specs.Resolving.{sample_of, Span, own, named, name_fault_at, copied_at, delivered_at, delivered, judged}
use Rattle.resolution_rules.specs.Calls.{written, output, no_span, resolve_call, unit_call}
use Rattle.resolution_rules.specs.Rules.{Resolves}
use Rattle.resolution_rules.proofs.Good.{good_rules}
use Rattle.resolution_rules.proofs.Delivered.{delivered_unit_lem, delivered_aggregator, delivered_extractor}
use Rattle.resolution_rules.proofs.Exactly.{delivered_plain, delivered_there}
use Rattle.resolution_rules.proofs.Readers.{first_layout_sound}
use Rattle.resolution_rules.proofs.Calls as calls
use Rattle.resolution_rules.proofs.Promises as resolving
use Rattle.naming_list_rules.specs.Naming.{namer, naming_list}
use Rattle.naming_list_rules.specs.Rules.{Names, Before, times_listed}
use Rattle.naming_list_rules.proofs.Promises as naming
use Rattle.promise_rules.proofs.SampleLaws.{formed_rules, rules_formed}
use Rattle.promise_rules.specs.Resolving.{NamedBy, NamesIt, Extraction, GoodSample, delivered_unit, Delivers, after_length, Resolved, StandsAt}
use Rattle.promise_rules.proofs.ResolveLaws.{names_by_lem, by_names, extraction_is, good_sample, sample_good}

pub part_bytes_lem : (b : List ℕ) (a n : ℕ) → Bytes b → (i : ℕ) → byte_at (part b a n) i < 256
part_bytes_lem b a n g i = by_bool (i <? n)
    (λ t. rw (part_byte b a n i (ltb-true _ _ t)) (g (a + i)))
    (λ t. let l : n ≤ i = ltb-false _ _ t in let h : length (part b a n) ≤ i = simp (length-take) (omega arith) in rw (get_or-eq_default (part b a n) 0 {n = i} h) (omega arith))

pub output_is : (r : Recording) (us : List Span) → output r us ≡ each (after_length r) us
unfolding output written
output_is r us = refl

module _ (b : List ℕ) (g : Bytes b) (r : Recording) (accepted : first_layout.means b ≡ ok r) where
  pub rise : TimesRise r.layout
  rise = first_layout_sound.rise b r accepted

  module _ (n : ℕ) (some : 0 < n) (there : n ≤ sample_count r.layout) where
    pub offset_byte : (p : ℕ) → sample_offset (sample_of r n) p < 256
    unfolding sample_of
    offset_byte p = rw (first_layout_sound.placed b r n accepted some there) (part_bytes_lem b (first_layout.content_at b n) (length (content_of r n)) g (p + L (sample_of r n) + 4 + 1))

    pub good_exactly : (judged r n ≡ ok tt) ↔ GoodSample r n
    good_exactly = (good_sample r rise n offset_byte, sample_good r rise n offset_byte)

    -- what is delivered
    copied_is : (p m : ℕ) (qs : List ℕ) → Extraction r n p m qs → copied_at r n p ≡ map (delivered_unit r m) qs
    unfolding copied_at
    copied_is p m qs x = let w = extraction_is r rise n offset_byte p m qs x in rw w.1 (ap (λ (j : ℕ). map (delivered_unit r j) qs) w.0)

    determined : {ps : List ℕ} {us : List Span} → Delivers r n ps us → us ≡ each (delivered_at r n) ps
    unfolding each
    determined Delivers.none = refl
    determined (Delivers.unit p a e d) = rw (delivered_unit_lem r n p (ne_eqb _ _ a) (ne_eqb _ _ e)) (ap (λ l. delivered_unit r n p ∷ l) (determined d))
    determined (Delivers.aggregator p a d) = rw (delivered_aggregator r n p (eq-eqb _ _ a)) (determined d)
    determined (Delivers.extractor p m qs t x d) = rw (delivered_extractor r n p (eq-eqb _ _ t), copied_is p m qs x) (ap (λ l. map (delivered_unit r m) qs ++ l) (determined d))

    over : (ps : List ℕ) → ((p : ℕ) → p ∈ ps → type (sample_of r n) p ≡ 31 → (m : ℕ) × (qs : List ℕ) × Extraction r n p m qs) → Delivers r n ps (each (delivered_at r n) ps)
    unfolding each
    over [] h = Delivers.none
    over (p ∷ ps) h =
        let below = over ps (λ q m. h q (Memᴰ.tail m)) in
        by_bool (is_aggregator (own r n) p)
        (λ a. rw (delivered_aggregator r n p a) (Delivers.aggregator p (eqb-true _ _ a) below))
        (λ a. by_bool (is_extractor (own r n) p)
        (λ e. let x = h p (Memᴰ.head refl) (eqb-true _ _ e) in
        rw (delivered_extractor r n p e, copied_is p x.0 x.1 x.2) (Delivers.extractor p x.0 x.1 (eqb-true _ _ e) x.2 below))
        (λ e. rw (delivered_unit_lem r n p a e) (Delivers.unit p (eqb-false _ _ a) (eqb-false _ _ e) below)))

    pub delivers : GoodSample r n → Delivers r n (units (sample_of r n)) (delivered r n)
    unfolding delivered
    delivers w = over (units (sample_of r n)) w.extracts

    pub delivers_only : (us : List Span) → Delivers r n (units (sample_of r n)) us → us ≡ delivered r n
    unfolding delivered
    delivers_only us d = determined d

    pub resolved_exactly :
        (room : ℕ) (out : List ℕ) →
        (resolve_call first_layout b n room ≡ ok out)
        ↔ ((us : List Span) × Resolved r n us × (out ≡ each (after_length r) us) × (length out ≤ room))
    resolved_exactly room out = (
      λ e.
          let w = calls.call_resolved_because first_layout b n room out e in
          let same : w.recording ≡ r = ok_same (sym w.means ∙ accepted) in
          let v : Resolves r n room out = subst (λ (s : Recording). Resolves s n room out) same w.resolves in
          let good = good_sample r rise n offset_byte v.good in
          (delivered r n, record { some = some; there = there; good = good; delivery = delivers good }, v.delivers ∙ output_is r (delivered r n), v.fits),
      λ w.
          let d = delivers_only w.0 w.1.delivery in
          calls.call_resolves first_layout b n room (record {
            recording = r;
            means = accepted;
            resolves = record {
              number = (some, there);
              good = sample_good r rise n offset_byte w.1.good;
              delivers = w.2 ∙ ap (each (after_length r)) d ∙ sym (output_is r (delivered r n));
              fits = w.3;
            };
          }),
    )

    pub delivered_one : (us vs : List Span) → Resolved r n us → Resolved r n vs → us ≡ vs
    delivered_one us vs w v = delivers_only us w.delivery ∙ sym (delivers_only vs v.delivery)

    -- where a delivered unit comes from
    comes : {ps : List ℕ} {us : List Span} → Delivers r n ps us → ((p : ℕ) → p ∈ ps → p ∈ units (sample_of r n)) → (u : Span) → u ∈ us →
        (u.sample ≡ n) ⊎ ((p : ℕ) × (qs : List ℕ) × (p ∈ units (sample_of r n)) × Extraction r n p u.sample qs)
    comes Delivers.none h u m = absurd (Memᴰ.not-nil m)
    comes (Delivers.unit p a e d) h u m = ⊎_elim
        (λ z. inl (rw z))
        (λ k. comes d (λ q l. h q (Memᴰ.tail l)) u k)
        (Memᴰ.cases_cons m)
    comes (Delivers.aggregator p a d) h u m = comes d (λ q l. h q (Memᴰ.tail l)) u m
    comes (Delivers.extractor p j qs t x d) h u m = ⊎_elim
        (λ k. let w = Memᴰ.of_map (delivered_unit r j) qs k in inr (p, qs, h p (Memᴰ.head refl), subst (λ (i : ℕ). Extraction r n p i qs) (ap (λ (v : Span). v.sample) w.2) x))
        (λ k. comes d (λ q l. h q (Memᴰ.tail l)) u k)
        (Memᴰ.append_cases (map (delivered_unit r j) qs) m)

    module _ (us : List Span) (w : Resolved r n us) where
      good : judged r n ≡ ok tt
      good = sample_good r rise n offset_byte w.good

      pub unit_stands :
          (k : ℕ) → 0 < k → k ≤ length us → let u = nth us k no_span in
          StandsAt b r n u (first_layout.content_at b u.sample + u.start) u.size
      unit_stands k h l =
          let e = delivers_only us w.delivery in
          let u = nth us k no_span in
          let m : u ∈ us = nth_mem us k no_span h l in
          let f = delivered_plain r n (good_rules r n good) u (rw (← e) m) in
          let t = delivered_there r n (good_rules r n good) some there u (rw (← e) m) in
          let i = first_layout_sound.inside b r u.sample accepted t.0 t.1 in
          let j = f.inside in
          let a = first_layout.content_at b u.sample in
          record {
            some = f.some;
            inside = omega arith;
            bytes = sym (rw (first_layout_sound.placed b r u.sample accepted t.0 t.1) (part_part b a (length (content_of r u.sample)) u.start u.size j));
            from = comes w.delivery (λ p k. k) u m;
          }

      pub unit_gives : (k : ℕ) → 0 < k → k ≤ length us → unit_call first_layout b n k ≡ ok (nth us k no_span)
      unit_gives k h l =
          let e = delivers_only us w.delivery in
          rw (← e) at (calls.unit_answers first_layout first_layout_sound b r accepted n some there good k h (rw (← e) l))

      pub covered_once :
          (p q : ℕ) → p ∈ top_units (sample_of r n) → type (sample_of r n) p ≡ 30 → q ∈ top_units (sample_of r n) →
          next (sample_of r n) p ≤ q → q < next (sample_of r n) p + additional_bytes (sample_of r n) p → (type (sample_of r n) q ≡ 31 → ⊥) →
          length (keep (λ u. (u.sample ≡? n) && (u.start ≡? q + L (sample_of r n))) us) ≡ 1
      unfolding top_between
      covered_once p q m t k a z e =
          rw (delivers_only us w.delivery)
          (resolving.covered_once r n good (resolving.never_itself first_layout first_layout_sound b r accepted n good) p m (eq-eqb _ _ t) q
          (keep_mem _ (top_units (sample_of r n)) k (rw (le-leb (next (sample_of r n) p) q a, lt-ltb q (next (sample_of r n) p + additional_bytes (sample_of r n) p) z)))
          (ne_eqb _ _ e))

-- the naming list
module _ (b : List ℕ) (g : Bytes b) (r : Recording) (accepted : first_layout.means b ≡ ok r) (s n p : ℕ) where
  pub names_it : Names r s n p → NamesIt r s n p
  unfolding named name_fault_at extractors
  names_it w =
      let k = keep_from (is_extractor (sample_of r n)) (units (sample_of r n)) w.extractor in
      record {
        some = w.some;
        there = w.there;
        formed = formed_rules (sample_of r n) w.formed;
        unit = k.0;
        extractor = eqb-true _ _ k.1;
        names = subst (NamedBy r.layout n (track_ref_index (sample_of r n) p) (sample_offset (sample_of r n) p)) w.names
            (names_by_lem r.layout (rise b g r accepted) n (track_ref_index (sample_of r n) p) (sample_offset (sample_of r n) p)
            (offset_byte b g r accepted n w.some w.there p) w.names_some);
      }

  pub it_names : NamesIt r s n p → Names r s n p
  unfolding named name_fault_at extractors
  it_names w =
      let k = by_names r.layout (rise b g r accepted) n (track_ref_index (sample_of r n) p) (sample_offset (sample_of r n) p)
      (offset_byte b g r accepted n w.some w.there p) s w.names in
      record {
        some = w.some;
        there = w.there;
        formed = rules_formed (sample_of r n) w.formed;
        extractor = keep_mem (is_extractor (sample_of r n)) (units (sample_of r n)) w.unit (eq-eqb _ _ w.extractor);
        names_some = k.0;
        names = k.1;
      }

  pub listed_exactly : (namer n p ∈ naming_list r s) ↔ NamesIt r s n p
  listed_exactly = let e = naming.listed_exactly r s n p in (λ m. names_it (e.0 m), λ w. e.1 (it_names w))

  pub listed_once : NamesIt r s n p → times_listed r s n p ≡ 1
  listed_once w = naming.listed_once r s n p (it_names w)

-- in order: each entry before every later one
pub rising_at : {A : Type 0} (R : A → A → Type 0) (xs : List A) (d : A) → Rising R xs → (i j : ℕ) → i < j → j < length xs → R (get_or xs i d) (get_or xs j d)
rising_at R [] d h i j l u = absurd (omega arith)
rising_at R (x ∷ xs) d h i zero l u = absurd (omega arith)
rising_at R (x ∷ xs) d h zero (suc j) l u = h.0 (get_or xs j d) (get_d_mem xs j d (omega arith))
rising_at R (x ∷ xs) d h (suc i) (suc j) l u = rising_at R xs d h.1 i j (omega arith) (omega arith)

pub listed_in_order : (r : Recording) (s i j : ℕ) → i < j → j < length (naming_list r s) → Before (get_or (naming_list r s) i (namer 0 0)) (get_or (naming_list r s) j (namer 0 0))
listed_in_order r s = rising_at Before (naming_list r s) (namer 0 0) (naming.listed_in_order r s)
