-- The proofs of what Demands says of an extractor that is refused. Assumes nothing.
use Prim.Native.Nat.{ℕ, suc, ◌≤◌, ◌<◌}
use mathlib.Core.Path.{◌≡◌, ap, sym, ◌∙◌, subst}
use mathlib.Core.Logic.{◌⊎◌, inl, inr, ◌↔◌}
use native.Mathlib.Omega.{arith}
use native.Mathlib.Nat.{pos_of_ne-zero}
use borrow.Author.Tests.{ltb-true, ltb-false, lt-ltb, eqb-true, eqb-false, eq-eqb}
use lib.ListN.{length}
use Rattle.words.specs.Tests.{◌<?◌, ◌≡?◌}
use Rattle.words.specs.Lists.{keep}
use Rattle.words.proofs.Tests.{by_bool, by_number}
use Rattle.words.proofs.Refusals.{ok_refused, by_verdict}
use Rattle.units.specs.Extractors.{track_ref_index, sample_offset, data_offset, data_length}
use Rattle.samples.specs.Check.{check}
use Rattle.bundles.specs.Recordings.{Layout, Recording, track_of, references_from}
use Rattle.links.specs.Links.{link_fault, sample_named, name_fault}
use Rattle.links.specs.Order.{TimesRise}
use Rattle.links.proofs.Links.{link_good, name_good}
use Rattle.copies.specs.Copies.{copy_end, copy_fault}
use Rattle.copies.proofs.Answers.{copy_ill}
use Rattle.resolution_rules.specs.Resolving.{sample_of, own, named, linked, name_fault_at, copy_fault_at, extract_fault}
use Rattle.promise_rules.specs.Resolving.{NamedBy, CopyAmong}
use Rattle.promise_rules.specs.Refused.{ExtractorFault}
use Rattle.promise_rules.proofs.SampleLaws.{formed_rules, rules_formed}
use Rattle.promise_rules.proofs.CopyLaws.{copy_ends_lem, ends_copy, copied_inside, inside_copied, by_copy, fault_26, fault_27, fault_28}
use Rattle.promise_rules.proofs.ResolveLaws.{names_by_lem, by_names}

-- the numbers of a name
module _ (y : Layout) (n index offset : ℕ) where
  abbrev count : ℕ
  count = length (keep (λ f. f.from ≡? track_of y n) y.references)

  link_23 : (index ≡ 0) ⊎ (count < index) → name_fault y n index offset ≡ 23
  unfolding name_fault link_fault references_from
  link_23 (inl e) = rw (eq-eqb index 0 e)
  link_23 (inr h) = by_bool (index ≡? 0) (λ t. rw t) (λ t. rw (t, lt-ltb count index h))

  link_there : 0 < index → index ≤ count → link_fault y n index ≡ 0
  unfolding references_from
  link_there h l = link_good y n index h l

  name_24 : 0 < index → index ≤ count → sample_named y n index offset ≡ 0 → name_fault y n index offset ≡ 24
  unfolding name_fault
  name_24 h l e = rw (link_there h l, e)

  by_name :
      {G : Type 0} → ((index ≡ 0) ⊎ (count < index) → G) → (0 < index → index ≤ count → sample_named y n index offset ≡ 0 → G) →
      (name_fault y n index offset ≡ 0 → G) → G
  by_name f g h = by_bool (index ≡? 0)
      (λ t. f (inl (eqb-true _ _ t)))
      (λ t. by_bool (count <? index)
      (λ u. f (inr (ltb-true _ _ u)))
      (λ u. by_number (sample_named y n index offset)
      (λ z. g (pos_of_ne-zero (eqb-false _ _ t)) (ltb-false _ _ u) z)
      (λ k z. h (name_good y n index offset (omega arith)))))

module _ (r : Recording) (rise : TimesRise r.layout) (n : ℕ) (byte : (p : ℕ) → sample_offset (sample_of r n) p < 256) (p : ℕ) where
  abbrev index : ℕ
  index = track_ref_index (own r n) p

  abbrev offset : ℕ
  offset = sample_offset (own r n) p

  abbrev o : ℕ
  o = data_offset (own r n) p

  abbrev l : ℕ
  l = data_length (own r n) p

  name_first : {m : ℕ} → name_fault r.layout n index offset ≡ suc m → extract_fault r n p ≡ suc m
  unfolding extract_fault name_fault_at
  name_first e = rw e

  copy_then : name_fault r.layout n index offset ≡ 0 → extract_fault r n p ≡ copy_fault (linked r n p) o l
  unfolding extract_fault name_fault_at copy_fault_at
  copy_then e = rw e

  is_named : name_fault r.layout n index offset ≡ 0 → NamedBy r.layout n index offset (named r n p)
  unfolding named
  is_named e = names_by_lem r.layout rise n index offset (byte p) e

  unnamed : name_fault r.layout n index offset ≡ 24 → (k : ℕ) → NamedBy r.layout n index offset k → ⊥
  unnamed e k w = let z = (by_names r.layout rise n index offset (byte p) k w).0 in absurd (omega arith)

  pub fault_of : {m : ℕ} → extract_fault r n p ≡ m → 0 < m → ExtractorFault r n p m
  fault_of {m} e s = by_name r.layout n index offset
      (λ h. is (name_first (link_23 r.layout n index offset h)) (ExtractorFault.index h))
      (λ h k z. let f = name_24 r.layout n index offset h k z in is (name_first f) (ExtractorFault.name h k (unnamed f)))
      (λ f.
      let z = linked r n p in
      let w = is_named f in
      by_verdict (check z)
      (λ a c v. is (copy_then f ∙ copy_ill z o l v) (ExtractorFault.form (named r n p) w (λ g. ok_refused (sym v ∙ rules_formed z g))))
      (λ v.
      let g = formed_rules z v in
      by_copy z o l g
      (λ no i. is (copy_then f ∙ i) (ExtractorFault.start (named r n p) w g no))
      (λ s no i. is (copy_then f ∙ i) (ExtractorFault.end (named r n p) (copy_end z o l) w g s (copy_ends_lem z o l) no))
      (λ a q m t i.
      let j = copied_inside z o l q m in
      is (copy_then f ∙ i) (ExtractorFault.chain (named r n p) (copy_end z o l) q w g (copy_ends_lem z o l) a j.0 j.1 j.2 t))
      (λ a no i. let y = copy_then f ∙ i in absurd (omega arith))))
    where
      is : {k : ℕ} → extract_fault r n p ≡ k → ExtractorFault r n p k → ExtractorFault r n p m
      is q w = subst (ExtractorFault r n p) (sym q ∙ e) w

  -- 23 and 24 are those of the name, both ways
  pub name_fault_of : {m : ℕ} → name_fault_at r n p ≡ suc m → ExtractorFault r n p (suc m) × (suc m < 25)
  unfolding name_fault_at
  name_fault_of {m} e = (
    fault_of (name_first e) (omega arith),
    by_name r.layout n index offset
        (λ h. let f = sym e ∙ link_23 r.layout n index offset h in omega arith)
        (λ h k z. let f = sym e ∙ name_24 r.layout n index offset h k z in omega arith)
        (λ z. let f = sym e ∙ z in absurd (omega arith)),
  )

  name_none :
      0 < index → index ≤ count r.layout n index offset → ((k : ℕ) → NamedBy r.layout n index offset k → ⊥) →
      name_fault r.layout n index offset ≡ 24
  name_none h k none = by_number (sample_named r.layout n index offset)
      (λ z. name_24 r.layout n index offset h k z)
      (λ j z. absurd (none (named r n p) (is_named (name_good r.layout n index offset (omega arith)))))

  pub name_fault_is : {m : ℕ} → ExtractorFault r n p m → m < 25 → name_fault_at r n p ≡ m
  unfolding name_fault_at
  name_fault_is (ExtractorFault.index h) l = link_23 r.layout n index offset h
  name_fault_is (ExtractorFault.name h k none) l = name_none h k none
  name_fault_is (ExtractorFault.form k w z) l = absurd (omega arith)
  name_fault_is (ExtractorFault.start k w f z) l = absurd (omega arith)
  name_fault_is (ExtractorFault.end k e w f s c z) l = absurd (omega arith)
  name_fault_is (ExtractorFault.chain k e q w f c d u a b t) l = absurd (omega arith)

  -- the fault of an extractor that names sample k is that of its copy
  named_fault : {k : ℕ} → NamedBy r.layout n index offset k → extract_fault r n p ≡ copy_fault (sample_of r k) o l
  unfolding named
  named_fault {k} w =
      let i = by_names r.layout rise n index offset (byte p) k w in
      copy_then i.0 ∙ ap (λ (j : ℕ). copy_fault (sample_of r j) o l) i.1

  pub is_fault : {m : ℕ} → ExtractorFault r n p m → (extract_fault r n p ≡ m) × (0 < m)
  is_fault (ExtractorFault.index h) = (name_first (link_23 r.layout n index offset h), omega arith)
  is_fault (ExtractorFault.name h k none) = (name_first (name_none h k none), omega arith)
  is_fault (ExtractorFault.form k w broken) = (
    named_fault w ∙ by_verdict (check (sample_of r k))
        (λ a c v. copy_ill (sample_of r k) o l v)
        (λ v. absurd (broken (formed_rules (sample_of r k) v))),
    omega arith,
  )
  is_fault (ExtractorFault.start k w f none) = (named_fault w ∙ (fault_26 (sample_of r k) o l f).1 none, omega arith)
  is_fault (ExtractorFault.end k e w f s ends none) =
      let z = sample_of r k in
      (named_fault w ∙ (fault_27 z o l f s).1 (λ a. none (subst (CopyAmong z o) (ends_copy z o l e ends) a)), omega arith)
  is_fault (ExtractorFault.chain k e q w f ends d u a b t) =
      let z = sample_of r k in
      let i : copy_end z o l ≡ e = ends_copy z o l e ends in
      let j = inside_copied z o l q u (λ c. absurd (omega arith)) a (rw i b) in
      (named_fault w ∙ (fault_28 z o l f (subst (CopyAmong z o) (sym i) d)).1 (q, j, t), omega arith)

  pub copy_fault_is : {k m : ℕ} → NamedBy r.layout n index offset k → 0 < m → ExtractorFault r n p m ↔ (copy_fault (sample_of r k) o l ≡ m)
  copy_fault_is w s = (λ x. sym (named_fault w) ∙ (is_fault x).0, λ e. fault_of (named_fault w ∙ e) s)
