-- When a sample is good, and how it is refused. Assumes nothing.
--
--   extract_rules, rules_extract    an extractor without 23 to 28 follows the rules, both ways
--   good_rules, rules_good          so does a sample without 14 to 28
--   judged_refused                  a refusal of a sample is one of its set, at a place in the sample
--   judged_first, first_judged      it is that of the check, or of the first extractor that is refused, both ways
--   extract_range                   a refusal of an extractor is one of its set
--   own_length                      the bytes of sample n
use Prim.Native.Nat.{ℕ, zero, suc, ◌<◌}
use mathlib.Core.Path.{◌≡◌, refl, ◌∙◌, subst}
use mathlib.Core.List.Memᴰ
use mathlib.Core.List.{Memᴰ}
use mathlib.Core.Logic.{◌⊎◌, inl, inr}
use native.Mathlib.Omega.{arith}
use lib.ListN.{length}
use Rattle.words.specs.RefusalNumbers.{form_refusals, name_refusals, copy_refusals, extractor_refusals}
use Rattle.words.specs.Refusals.{refused, ok}
use Rattle.words.specs.Lists.{◌∈◌}
use Rattle.words.proofs.Refusals.{or_else_none, at_ok, at_none, at_from, and_ok, by_verdict, first_ok, first_all, first_from, NoneOr, none_or_or_else, none_or_wider, none_or_some}
use Rattle.words.proofs.Lists.{keep_from, Rising, rising_keep}
use Rattle.units.specs.Units.{end, is_extractor}
use Rattle.units.specs.Extractors.{track_ref_index, sample_offset, data_offset, data_length}
use Rattle.units.specs.Aggregators.{units, extractors}
use Rattle.units.proofs.Walks.{units_rise}
use Rattle.samples.specs.Check.{check}
use Rattle.samples.proofs.Laws.{check_refusals, unit_inside}
use Rattle.bundles.specs.Recordings.{Recording, content_of}
use Rattle.links.proofs.Links.{link_none, in_track, named_there, name_none, name_good, name_refusal}
use Rattle.copies.proofs.Copied.{copy_rules, rules_copy, copy_refusal}
use Rattle.resolution_rules.specs.Resolving.{sample_of, own, named, linked, name_fault_at, copy_fault_at, extract_fault, judged}
use Rattle.resolution_rules.specs.Rules.{Extracts, Good, JudgedRefusal, FirstRefused}
use Rattle.words.proofs.Joined.{first_earliest, first_here}
use Rattle.resolution_rules.proofs.Delivered.{extract_judge}

pub own_length : (r : Recording) (n : ℕ) → end (sample_of r n) ≡ length (content_of r n)
unfolding sample_of
own_length r n = refl

module _ (r : Recording) (n : ℕ) where
  pub extract_rules : (p : ℕ) → extract_fault r n p ≡ 0 → Extracts r n p
  unfolding extract_fault name_fault_at copy_fault_at named
  extract_rules p e =
      let a = or_else_none (name_fault_at r n p) _ e in
      let b = name_none r.layout n (track_ref_index (own r n) p) (sample_offset (own r n) p) a.0 in
      record {
        index = link_none r.layout n (track_ref_index (own r n) p) b.0;
        there = named_there r.layout n (track_ref_index (own r n) p) (sample_offset (own r n) p) b.1;
        copy = copy_rules (linked r n p) (data_offset (own r n) p) (data_length (own r n) p) a.1;
      }

  pub rules_extract : (p : ℕ) → Extracts r n p → extract_fault r n p ≡ 0
  unfolding extract_fault name_fault_at copy_fault_at named
  rules_extract p x =
      let m = in_track r.layout n _ _ x.there in
      rw (name_good r.layout n (track_ref_index (own r n) p) (sample_offset (own r n) p) m.0) (rules_copy (linked r n p) (data_offset (own r n) p) (data_length (own r n) p) x.copy)

  pub extract_range : (p : ℕ) → NoneOr extractor_refusals (extract_fault r n p)
  unfolding extract_fault name_fault_at copy_fault_at
  extract_range p = none_or_or_else extractor_refusals _ _
      (none_or_wider (λ m w. Memᴰ.append_left copy_refusals w) (name_refusal r.layout n (track_ref_index (own r n) p) (sample_offset (own r n) p)))
      (none_or_wider (λ m w. Memᴰ.append_right name_refusals w) (copy_refusal (linked r n p) (data_offset (own r n) p) (data_length (own r n) p)))

  pub good_rules : judged r n ≡ ok tt → Good r n
  unfolding judged
  good_rules e =
      let a = and_ok (check (own r n)) _ e in
      record { formed = a.0; extracts = λ p m. extract_rules p (at_ok _ p (first_ok (extract_judge r n) (extractors (own r n)) a.1 m)) }

  pub rules_good : Good r n → judged r n ≡ ok tt
  unfolding judged
  rules_good g = rw g.formed (first_all (extract_judge r n) (extractors (own r n)) (λ p m. at_none p (rules_extract p (g.extracts p m))))

  -- an extractor of a well-formed sample lies in it
  pub extractor_inside : check (own r n) ≡ ok tt → (p : ℕ) → Memᴰ p (extractors (own r n)) → p < length (content_of r n)
  unfolding extractors
  extractor_inside e p m = let i = unit_inside (own r n) e p (keep_from (is_extractor (own r n)) (units (own r n)) m).0 in let l = own_length r n in omega arith

  pub judged_refused : (m p : ℕ) → judged r n ≡ refused m p → JudgedRefusal r n m p
  unfolding judged
  judged_refused m p e = by_verdict (check (own r n))
      (λ a c v.
      let s : refused a c ≡ refused m p = rw v at e in
      let k = check_refusals (own r n) m p (v ∙ s) in
      let l = own_length r n in
      (Memᴰ.append_left extractor_refusals k.0, omega arith))
      (λ v.
      let w = first_from (extract_judge r n) (extractors (own r n)) (rw v at e) in
      let f = at_from (extract_fault r n w.0) w.0 w.2 in
      let g = none_or_some extractor_refusals (extract_range w.0) f.2 in
      let i = extractor_inside v w.0 w.1 in
      (Memᴰ.append_right form_refusals (subst (λ k. k ∈ extractor_refusals) f.0 g), omega arith))

  extractors_rise : Rising ◌<◌ (extractors (own r n))
  unfolding extractors
  extractors_rise = rising_keep ◌<◌ (is_extractor (own r n)) (units (own r n)) (units_rise (own r n))

  pub judged_first : (m p : ℕ) → judged r n ≡ refused m p → (check (own r n) ≡ refused m p) ⊎ FirstRefused r n m p
  unfolding judged
  judged_first m p e = by_verdict (check (own r n))
      (λ a c v. let s : refused a c ≡ refused m p = rw v at e in inl (v ∙ s))
      (λ v.
      let f = rw v at e in
      let w = first_earliest (extract_fault r n) (extractors (own r n)) extractors_rise f in
      let k = first_from (extract_judge r n) (extractors (own r n)) f in
      let g = at_from (extract_fault r n k.0) k.0 k.2 in
      inr (record { formed = v; extractor = w.0; refuses = w.1; some = omega arith; earlier = w.2 }))

  pub first_judged : (m p : ℕ) → FirstRefused r n m p → judged r n ≡ refused m p
  unfolding judged
  first_judged zero p w = let h = w.some in absurd (omega arith)
  first_judged (suc m) p w = rw w.formed (first_here (extract_fault r n) (extractors (own r n)) m p extractors_rise w.extractor w.refuses w.earlier)
