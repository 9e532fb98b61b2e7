-- The proofs of what Demands says of resolving. Assumes nothing.
--
--   base_one                                there is one base
--   in_samples                              a sample of a track is among its samples
--   base_of_lem, of_base                    the base in plain facts, both ways
--   names_by_lem, by_names                  the sample named
--   extraction, extraction_is               what an extractor stands for
--   good_sample, sample_good, good_exactly  no fault of 14 to 28
use Prim.Native.Nat.{ℕ, ◌+◌, ◌-◌, ◌≤◌, ◌<◌}
use mathlib.Core.Path.{◌≡◌, refl, sym, ◌∙◌, subst}
use mathlib.Core.List.{List}
use mathlib.Core.Logic.{◌↔◌}
use native.Mathlib.Omega.{arith}
use borrow.Author.Tests.{ltb-true, ltb-false, le-ltb, eqb-true, eqb-false, eq-eqb, leb-true, leb-false, le-leb}
use lib.ListN.{length}
use Rattle.words.specs.Tests.{◌≤?◌, ◌<?◌, ◌≡?◌}
use Rattle.words.specs.Refusals.{ok}
use Rattle.words.specs.Lists.{◌∈◌, keep, nth, last_that}
use Rattle.words.proofs.Tests.{by_bool, by_number}
use Rattle.words.proofs.Lists.{keep_from}
use Rattle.units.specs.Units.{is_extractor}
use Rattle.units.specs.Extractors.{track_ref_index, sample_offset, data_offset, data_length}
use Rattle.units.specs.Aggregators.{units, extractors}
use Rattle.bundles.specs.Recordings.{Layout, Recording, no_reference, track_of, references_from, samples_in}
use Rattle.links.specs.Links.{link_fault, linked_track, at_or_before, base, sample_named, name_fault}
use Rattle.links.specs.Order.{TimesRise, base_sample, before, up_to}
use Rattle.links.proofs.Links.{link_none, link_good, in_track, track_in_lem, named_baseless, named_there, name_none, name_good}
use Rattle.links.proofs.Order.{base_times, base_last, later_without, base_is, named_steps, before_test, up_to_test}
use Rattle.copies.specs.Copies.{copied}
use Rattle.copies.proofs.Copied.{copy_rules, rules_copy}
use Rattle.resolution_rules.specs.Resolving.{sample_of, own, named, linked, judged}
use Rattle.resolution_rules.specs.Rules.{Extracts}
use Rattle.resolution_rules.proofs.Good.{good_rules, rules_good}
use Rattle.resolution_rules.proofs.Exactly.{extractor_mem}
use Rattle.promise_rules.proofs.SampleLaws.{formed_rules, rules_formed}
use Rattle.promise_rules.proofs.CopyLaws.{copy_of, of_copy}
use Rattle.promise_rules.specs.Resolving.{Sampled, BaseOf, On, NamedBy, CopyOf, Extraction, GoodSample}

module _ (y : Layout) where
  -- there is one base
  pub base_one : (n k c d : ℕ) → BaseOf y n k c → BaseOf y n k d → c ≡ d
  base_one n k c d u v = by_bool (c ≡? d) (λ t. eqb-true _ _ t) (λ t.
      let z : c ≡ d → ⊥ = eqb-false _ _ t in
      by_bool (c <? d)
      (λ l. let l' : c < d = ltb-true _ _ l in let e = u.last d v.sample l' in let f = v.before in absurd (omega arith))
      (λ l. let l' : d ≤ c = ltb-false _ _ l in let e = v.last c u.sample (omega arith) in let f = u.before in absurd (omega arith)))

  sampled : (m k : ℕ) → m ∈ samples_in y k → Sampled y m k
  sampled m k h = let w = in_track y 0 k m h in record { some = w.0; there = w.1; track = w.2 }

  pub in_samples : (m k : ℕ) → Sampled y m k → m ∈ samples_in y k
  in_samples m k s = track_in_lem y 0 k m s.some s.there s.track

  -- where the base is the last sample of the track at or before
  module _ (n k : ℕ) (is : base y n k ≡ last_that (λ m. at_or_before y m n) (samples_in y k)) where
    pub base_of_lem : 0 < base y n k → BaseOf y n k (base_sample y n k)
    base_of_lem h =
        let b = base_last y n k is h in
        let t = base_times y n k is h in
        record { sample = sampled (base_sample y n k) k b.there; before = t.0; last = λ m s l. t.1 m (in_samples m k s) l }

    pub of_base : (c : ℕ) → BaseOf y n k c → (0 < base y n k) × (base_sample y n k ≡ c)
    of_base c w =
        let h : 0 < base y n k = by_number (base y n k)
        (λ z. let q = later_without y n k is z c (in_samples c k w.sample) in let f = w.before in absurd (omega arith))
        (λ j z. omega arith) in
        (h, base_one n k (base_sample y n k) c (base_of_lem h) w)

-- the sample named
module _ (y : Layout) (rise : TimesRise y) where
  in_range : (m k : ℕ) → Sampled y m k → (before y k < m) × (m ≤ up_to y k)
  in_range m k s =
      let a = before_test y rise.tracks k m s.some s.there in
      let b = up_to_test y rise.tracks k m s.some s.there in
      let e = s.track in
      (leb-false _ _ (sym a ∙ le-ltb (track_of y m) k (omega arith)), leb-true _ _ (sym b ∙ le-leb (track_of y m) k (omega arith)))

  module _ (n index offset : ℕ) (byte : offset < 256) where
    abbrev track : ℕ
    track = linked_track y n index

    linked_is : (nth (keep (λ f. f.from ≡? track_of y n) y.references) index no_reference).to ≡ track
    unfolding linked_track references_from
    linked_is = refl

    link_there : link_fault y n index ≡ 0 → index ≤ length (keep (λ f. f.from ≡? track_of y n) y.references)
    unfolding references_from
    link_there e = (link_none y n index e).1

    there_link : 0 < index → index ≤ length (keep (λ f. f.from ≡? track_of y n) y.references) → link_fault y n index ≡ 0
    unfolding references_from
    there_link h l = link_good y n index h l

    -- the steps from the base
    on_steps : 0 < base y n track → 0 < sample_named y n index offset → On offset (base_sample y n track) (sample_named y n index offset)
    on_steps h s =
        let w = named_steps y rise n index offset h in
        by_bool (offset <? 128)
        (λ t. let l : offset < 128 = ltb-true _ _ t in
        by_bool (base_sample y n track + offset ≤? up_to y track)
        (λ u. On.ahead l (w.up l (leb-true _ _ u)))
        (λ u. let z = w.past l (leb-false _ _ u) in absurd (omega arith)))
        (λ t. let l : 128 ≤ offset = ltb-false _ _ t in
        by_bool (before y track + (256 - offset) <? base_sample y n track)
        (λ u. let v : before y track + (256 - offset) < base_sample y n track = ltb-true _ _ u in let z = w.down l (omega arith) v in On.back l (omega arith))
        (λ u. let z = w.short l (omega arith) (ltb-false _ _ u) in absurd (omega arith)))

    pub names_by_lem : name_fault y n index offset ≡ 0 → NamedBy y n index offset (sample_named y n index offset)
    names_by_lem e =
        let a = name_none y n index offset e in
        let h : 0 < base y n track = by_number (base y n track)
        (λ z. let q = named_baseless y n index offset z in let s = a.1 in absurd (omega arith))
        (λ k z. omega arith) in
        record {
          track = track;
          some = (link_none y n index a.0).0;
          there = link_there a.0;
          reference = linked_is;
          base = base_sample y n track;
          is_base = base_of_lem y n track (base_is y rise n track) h;
          steps = on_steps h a.1;
          sample = sampled y (sample_named y n index offset) track (named_there y n index offset a.1);
        }

    steps_on : 0 < base y n track → (m : ℕ) → Sampled y m track → On offset (base_sample y n track) m → sample_named y n index offset ≡ m
    steps_on h m s (On.ahead l e) =
        let w = named_steps y rise n index offset h in
        let g = in_range m track s in
        w.up l (omega arith) ∙ sym e
    steps_on h m s (On.back l e) =
        let w = named_steps y rise n index offset h in
        let g = in_range m track s in
        let i : before y track < m = g.0 in
        let z = w.down l (omega arith) (omega arith) in
        omega arith

    pub by_names : (m : ℕ) → NamedBy y n index offset m → (name_fault y n index offset ≡ 0) × (sample_named y n index offset ≡ m)
    by_names m w =
        let k : w.track ≡ track = sym w.reference ∙ linked_is in
        let c : BaseOf y n track w.base = subst (λ (j : ℕ). BaseOf y n j w.base) k w.is_base in
        let s : Sampled y m track = subst (Sampled y m) k w.sample in
        let d = of_base y n track (base_is y rise n track) w.base c in
        let e = steps_on d.0 m s (subst (λ (j : ℕ). On offset j m) (sym d.1) w.steps) in
        let t = s.some in
        (name_good y n index offset (omega arith), e)

-- a good sample
module _ (r : Recording) (rise : TimesRise r.layout) (n : ℕ) (byte : (p : ℕ) → sample_offset (sample_of r n) p < 256) where
  pub extraction : (p : ℕ) → Extracts r n p → (m : ℕ) × (qs : List ℕ) × Extraction r n p m qs
  unfolding named
  extraction p x =
      let t = in_track r.layout n _ _ x.there in
      let e = name_good r.layout n (track_ref_index (own r n) p) (sample_offset (own r n) p) t.0 in (
        named r n p,
        copied (linked r n p) (data_offset (own r n) p) (data_length (own r n) p),
        record {
          names = names_by_lem r.layout rise n (track_ref_index (own r n) p) (sample_offset (own r n) p) (byte p) e;
          copies = copy_of (linked r n p) (data_offset (own r n) p) (data_length (own r n) p) (rules_copy _ _ _ x.copy);
        },
      )

  pub extraction_is : (p m : ℕ) (qs : List ℕ) → Extraction r n p m qs → (named r n p ≡ m) × (copied (linked r n p) (data_offset (own r n) p) (data_length (own r n) p) ≡ qs) × Extracts r n p
  unfolding named
  extraction_is p m qs x =
      let w = by_names r.layout rise n (track_ref_index (own r n) p) (sample_offset (own r n) p) (byte p) m x.names in
      let a = name_none r.layout n (track_ref_index (own r n) p) (sample_offset (own r n) p) w.0 in
      let c = subst (λ (j : ℕ). CopyOf (sample_of r j) (data_offset (own r n) p) (data_length (own r n) p) qs) (sym w.1) x.copies in
      let d = of_copy (linked r n p) (data_offset (own r n) p) (data_length (own r n) p) qs c in (
        w.1,
        d.1,
        record {
          index = link_none r.layout n (track_ref_index (own r n) p) a.0;
          there = named_there r.layout n (track_ref_index (own r n) p) (sample_offset (own r n) p) a.1;
          copy = copy_rules (linked r n p) (data_offset (own r n) p) (data_length (own r n) p) d.0;
        },
      )

  pub good_sample : judged r n ≡ ok tt → GoodSample r n
  good_sample j =
      let g = good_rules r n j in
      record {
        formed = formed_rules (sample_of r n) g.formed;
        extracts = λ p m t. extraction p (g.extracts p (extractor_mem r n p m (eq-eqb _ _ t)));
      }

  pub sample_good : GoodSample r n → judged r n ≡ ok tt
  unfolding extractors
  sample_good g = rules_good r n (record {
    formed = rules_formed (sample_of r n) g.formed;
    extracts = λ p m.
        let k = keep_from (is_extractor (own r n)) (units (own r n)) m in
        let x = g.extracts p k.0 (eqb-true _ _ k.1) in
        (extraction_is p x.0 x.1 x.2).2;
  })

  pub good_exactly : (judged r n ≡ ok tt) ↔ GoodSample r n
  good_exactly = (good_sample, sample_good)
