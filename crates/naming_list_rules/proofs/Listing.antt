-- The naming list of a sample s of any recording r. Assumes nothing, but where a line says that references join different tracks, as 5 ensures.
--
--   listed, listed_from  the list holds exactly the extractors that name s, both ways
--   list_only            every element of it is such an extractor
--   list_rises           by sample and then place, so each once
--   list_once            how often an extractor that names s stands in it
--   list_size_lem        6 bytes an extractor
--   names_elsewhere      no extractor names its own sample
--   list_kept            the list does not depend on the bytes of s
use Prim.Native.Nat.{ℕ, ◌*◌, ◌<◌}
use mathlib.Core.Path.{◌≡◌, refl, ap, sym, ◌∙◌, subst}
use mathlib.Core.Logic.{inl, inr, ⊎_elim}
use mathlib.Core.List.Memᴰ
use mathlib.Core.List.{List, [], ◌∷◌, map, Memᴰ}
use mathlib.Core.Bool.{Bool, true}
use native.Mathlib.Omega.{arith}
use borrow.Author.Tests.{eqb-true, eqb-false, eq-eqb, ne_eqb}
use lib.Dec.{eqb}
use lib.ListN.{length, length-append}
use Rattle.words.specs.Tests.{◌≡?◌}
use Rattle.words.specs.Refusals.{ok}
use Rattle.words.specs.Lists.{keep, each, upto}
use Rattle.words.proofs.Tests.{by_bool, and_both}
use Rattle.words.proofs.Lists.{each_cong, each_from, each_mem, keep_mem, keep_from, keep_cong, keep_nothing, upto_mem, upto_from, Rising, rising_keep, rising_each, rising_map, rising_upto}
use Rattle.words.proofs.Kept.{keep_yes, keep_no}
use Rattle.words.proofs.Bytes.{bytes_length}
use Rattle.units.specs.Units.{is_extractor}
use Rattle.units.specs.Extractors.{track_ref_index, sample_offset}
use Rattle.units.specs.Aggregators.{extractors}
use Rattle.samples.specs.Check.{check, well_formed}
use Rattle.samples.proofs.Laws.{formed, formed_ok, units_rise}
use Rattle.bundles.specs.Recordings.{Recording, track_of, replaced}
use Rattle.links.proofs.Links.{linked_reference, in_track, named_there, name_none}
use Rattle.resolution_rules.specs.Resolving.{sample_of, own, named, name_fault_at}
use Rattle.resolution_rules.specs.Readers.{DifferentTracks}
use Rattle.naming_list_rules.specs.Naming.{Namer, namer, names_sample, namers_in, naming_list, list_entry_size, entry_bytes, list_bytes}
use Rattle.naming_list_rules.specs.Rules.{Names, Before, is_namer, times_listed}
use Rattle.naming_list_rules.proofs.Replaced.{sample_other, named_other, name_fault_other}

module _ (r : Recording) (s : ℕ) where
  -- the extractors of one sample
  in_sample : (n p : ℕ) → Memᴰ p (namers_in r s n) → (check (sample_of r n) ≡ ok tt) × Memᴰ p (extractors (sample_of r n)) × (name_fault_at r n p ≡ 0) × (named r n p ≡ s)
  unfolding namers_in
  in_sample n p m = by_bool (well_formed (sample_of r n))
      (λ q.
      let k = keep_from (names_sample r s n) _ (rw q at m) in
      let b = and_both (name_fault_at r n p ≡? 0) _ k.1 in
      (formed_ok (sample_of r n) q, k.0, eqb-true _ _ b.0, eqb-true _ _ b.1))
      (λ q. absurd (Memᴰ.not-nil (rw q at m)))

  sample_in : (n p : ℕ) → Names r s n p → Memᴰ p (namers_in r s n)
  unfolding namers_in
  sample_in n p w = rw (formed (sample_of r n) w.formed) (keep_mem (names_sample r s n) _ w.extractor (rw (w.names_some, w.names, eq-eqb s s refl)))

  pub listed : (n p : ℕ) → Names r s n p → Memᴰ (namer n p) (naming_list r s)
  unfolding naming_list
  listed n p w = each_mem (λ k. map (namer k) (namers_in r s k)) (upto _) (upto_mem _ n w.some w.there) (Memᴰ.map (namer n) (sample_in n p w))

  pub list_only : (e : Namer) → Memᴰ e (naming_list r s) → Names r s e.sample e.place
  unfolding naming_list
  list_only e m =
      let w = each_from (λ k. map (namer k) (namers_in r s k)) (upto _) m in
      let v = Memᴰ.of_map (namer w.0) (namers_in r s w.0) w.2 in
      let b = upto_from _ w.0 w.1 in
      let i = in_sample w.0 v.0 v.1 in
      subst (λ (e : Namer). Names r s e.sample e.place) v.2
      (record { some = b.0; there = b.1; formed = i.0; extractor = i.1; names_some = i.2; names = i.3 })

  pub listed_from : (n p : ℕ) → Memᴰ (namer n p) (naming_list r s) → Names r s n p
  listed_from n p m = list_only (namer n p) m

  -- in order
  sample_rises : (n : ℕ) → Rising ◌<◌ (namers_in r s n)
  unfolding namers_in extractors
  sample_rises n = by_bool (well_formed (sample_of r n))
      (λ q. rw q (rising_keep ◌<◌ (names_sample r s n) _ (rising_keep ◌<◌ (is_extractor (sample_of r n)) _ (units_rise (sample_of r n)))))
      (λ q. rw q tt)

  sample_is : (n : ℕ) (a : Namer) (ps : List ℕ) → Memᴰ a (map (namer n) ps) → n ≡ a.sample
  sample_is n a ps m = let w = Memᴰ.of_map (namer n) ps m in ap (λ (e : Namer). e.sample) w.2

  pub list_rises : Rising Before (naming_list r s)
  unfolding naming_list
  list_rises = rising_each ◌<◌ Before _ (upto _) (rising_upto _)
      (λ n. rising_map ◌<◌ Before (namer n) (namers_in r s n) (sample_rises n) (λ p q h. inr (refl, h)))
      (λ n k a b h m l. let c = sample_is n a (namers_in r s n) m in let d = sample_is k b (namers_in r s k) l in inl (omega arith))

-- where no two elements that pass stand in order, an element of a rising list that passes is the only one
count_one : {A : Type 0} (R : A → A → Type 0) (t : A → Bool) → ((x y : A) → t x ≡ true → t y ≡ true → R x y → ⊥) → (xs : List A) → Rising R xs → {x : A} → Memᴰ x xs → t x ≡ true → length (keep t xs) ≡ 1
count_one R t h [] g m e = absurd (Memᴰ.not-nil m)
count_one R t h (a ∷ xs) g {x} m e =
    let below = count_one R t h xs g.1 {x = x} in
    ⊎_elim
    (λ q.
    let f : t a ≡ true = sym (ap t q) ∙ e in
    rw (keep_yes t a xs f, keep_nothing t xs (λ y k. by_bool (t y) (λ i. absurd (h a y f i (g.0 y k))) (λ i. i))))
    (λ k. by_bool (t a)
    (λ f. absurd (h a x f e (g.0 x k)))
    (λ f. rw (keep_no t a xs f) (below k e)))
    (Memᴰ.cases_cons m)

module _ (r : Recording) (s n p : ℕ) where
  found : (e : Namer) → is_namer n p e ≡ true → (e.sample ≡ n) × (e.place ≡ p)
  found e t = let b = and_both (e.sample ≡? n) (e.place ≡? p) t in (eqb-true e.sample n b.0, eqb-true e.place p b.1)

  pub list_once : Names r s n p → times_listed r s n p ≡ 1
  list_once w = count_one Before (is_namer n p)
      (λ x y i j o. let a = found x i in let b = found y j in ⊎_elim (λ l. absurd (omega arith)) (λ l. let k = l.1 in absurd (omega arith)) o)
      (naming_list r s) (list_rises r s) (listed r s n p w) (rw (eq-eqb n n refl, eq-eqb p p refl))

pub entry_size : (e : Namer) → length (entry_bytes e) ≡ list_entry_size
entry_size e = simp (length-append, bytes_length)

pub list_size_lem : (es : List Namer) → length (list_bytes es) ≡ length es * list_entry_size
unfolding list_bytes each
list_size_lem [] = refl
list_size_lem (e ∷ es) =
    let a = entry_size e in
    let below = list_size_lem es in
    length-append (entry_bytes e) (list_bytes es) ∙ omega arith

-- references join different tracks
module _ (r : Recording) (apart : DifferentTracks r.layout) where
  pub names_elsewhere : (n p : ℕ) → name_fault_at r n p ≡ 0 → named r n p ≡ n → ⊥
  unfolding name_fault_at named
  names_elsewhere n p f e =
      let y = r.layout in
      let index = track_ref_index (own r n) p in
      let offset = sample_offset (own r n) p in
      let a = name_none y n index offset f in
      let k = linked_reference y n index a.0 in
      let t = in_track y n _ _ (named_there y n index offset a.1) in
      apart k.reference k.there (k.from ∙ ap (track_of y) (sym e) ∙ t.2 ∙ sym k.to)

  none_itself : (n : ℕ) → namers_in r n n ≡ []
  unfolding namers_in
  none_itself n = by_bool (well_formed (sample_of r n))
      (λ q. rw q (keep_nothing (names_sample r n n) _ (λ p m. by_bool (name_fault_at r n p ≡? 0)
      (λ t. rw (t, ne_eqb _ _ (names_elsewhere n p (eqb-true _ _ t))))
      (λ t. rw t))))
      (λ q. rw q)

module _ (r : Recording) (s : ℕ) (new : List ℕ) (apart : DifferentTracks r.layout) where
  abbrev after : Recording
  after = replaced r s new

  still_apart : DifferentTracks after.layout
  unfolding replaced
  still_apart = apart

  other_kept : (n : ℕ) → (n ≡ s → ⊥) → namers_in after s n ≡ namers_in r s n
  unfolding namers_in
  other_kept n h = rw (sample_other r s new n h, keep_cong (names_sample after s n) (names_sample r s n) (extractors (sample_of r n)) (λ p. rw (name_fault_other r s new n p h, named_other r s new n p h)))

  sample_kept : (n : ℕ) → namers_in after s n ≡ namers_in r s n
  sample_kept n = by_bool (eqb n s)
      (λ q. rw (eqb-true n s q) (none_itself after still_apart s ∙ sym (none_itself r apart s)))
      (λ q. other_kept n (eqb-false n s q))

  pub list_kept : naming_list after s ≡ naming_list r s
  unfolding naming_list replaced
  list_kept = each_cong _ _ (upto _) (λ n m. rw (sample_kept n))
