-- The proofs of what Contents says of the sample that an extractor names. Assumes nothing.
use Prim.Native.Nat.{ℕ, suc, ◌≤◌, ◌<◌}
use mathlib.Core.Path.{◌≡◌, ap, sym, ◌∙◌}
use mathlib.Core.Bool.{true, false}
use mathlib.Core.List.{List}
use mathlib.Core.Logic.{◌⊎◌, ◌↔◌}
use native.Mathlib.Omega.{arith}
use borrow.Author.Tests.{eqb-true, eq-eqb}
use Rattle.words.specs.Refusals.{refused, ok}
use Rattle.words.specs.Lists.{◌∈◌, has}
use Rattle.words.specs.Bytes.{Bytes}
use Rattle.words.proofs.Tests.{by_bool, by_number, true_false}
use Rattle.words.proofs.Refusals.{at_refused, ok_refused, ok_same, refused_along, by_answer, by_verdict}
use Rattle.words.proofs.Lists.{keep_from, keep_mem, has_from, has_mem}
use Rattle.units.specs.Units.{type, is_extractor}
use Rattle.units.specs.Aggregators.{units, extractors}
use Rattle.samples.specs.Check.{check}
use Rattle.bundles.specs.Recordings.{Recording, sample_count}
use Rattle.bundles.specs.Readers.{first_layout}
use Rattle.resolution_rules.specs.Resolving.{sample_of, own, named, name_fault_at}
use Rattle.resolution_rules.specs.Calls.{number_fault, named_in, named_call}
use Rattle.resolution_rules.proofs.Calls.{number_good, number_bad, by_count, named_number, named_form, named_none, named_extractor, named_bundle, named_means}
use Rattle.naming_list_rules.specs.Naming.{namer, naming_list}
use Rattle.promise_rules.specs.Resolving.{NamesIt}
use Rattle.promise_rules.specs.Contents.{NamedRefused}
use Rattle.promise_rules.proofs.SampleLaws.{formed_rules, rules_formed}
use Rattle.promise_rules.proofs.SampleFaultLaws.{form_refused, by_form}
use Rattle.promise_rules.proofs.FaultLaws.{name_fault_of, name_fault_is, is_fault}
use Rattle.promise_rules.proofs.CallLaws.{rise, offset_byte, names_it, it_names, listed_exactly}
use Rattle.promise_rules.proofs.RefusedLaws.{bundle_refused, refused_bundle}

-- the steps of the call
module _ (r : Recording) (n p : ℕ) where
  in_number : (n ≡ 0) ⊎ (sample_count r.layout < n) → named_in r n p ≡ refused 30 0
  in_number h = named_number r n p (sym (number_bad (sample_count r.layout) n h)) (λ z. omega arith)

  module _ (h : 0 < n) (l : n ≤ sample_count r.layout) where
    abbrev good : number_fault (sample_count r.layout) n ≡ 0
    good = number_good (sample_count r.layout) n h l

    module _ (c : check (own r n) ≡ ok tt) (e : has p (extractors (own r n)) ≡ true) where
      in_fault : {m : ℕ} → name_fault_at r n p ≡ m → 0 < m → named_in r n p ≡ refused m p
      in_fault f k = named_extractor r n p good c e ∙ rw (at_refused p (sym f) (λ z. omega arith))

      in_named : name_fault_at r n p ≡ 0 → named_in r n p ≡ ok (named r n p)
      in_named f = named_extractor r n p good c e ∙ rw f

  listed : p ∈ extractors (own r n) → has p (extractors (own r n)) ≡ true
  listed m = has_mem p (extractors (own r n)) m

  -- an extractor among the units
  extractor_there : p ∈ extractors (own r n) → (p ∈ units (sample_of r n)) × (type (sample_of r n) p ≡ 31)
  unfolding extractors
  extractor_there m = let k = keep_from (is_extractor (own r n)) (units (own r n)) m in (k.0, eqb-true _ _ k.1)

  there_extractor : p ∈ units (sample_of r n) → type (sample_of r n) p ≡ 31 → p ∈ extractors (own r n)
  unfolding extractors
  there_extractor m t = keep_mem (is_extractor (own r n)) (units (own r n)) m (eq-eqb _ _ t)

  module _ {G : Type 0} where
    by_steps :
        ((n ≡ 0) ⊎ (sample_count r.layout < n) → G) →
        (0 < n → n ≤ sample_count r.layout → (m q : ℕ) → check (own r n) ≡ refused m q → G) →
        (0 < n → n ≤ sample_count r.layout → check (own r n) ≡ ok tt → has p (extractors (own r n)) ≡ false → G) →
        (0 < n → n ≤ sample_count r.layout → check (own r n) ≡ ok tt → has p (extractors (own r n)) ≡ true → (m : ℕ) → name_fault_at r n p ≡ suc m → G) →
        (0 < n → n ≤ sample_count r.layout → check (own r n) ≡ ok tt → has p (extractors (own r n)) ≡ true → name_fault_at r n p ≡ 0 → G) → G
    by_steps a b c d e = by_count (sample_count r.layout) n a
        (λ h l. by_verdict (check (own r n)) (λ m q v. b h l m q v)
        (λ v. by_bool (has p (extractors (own r n)))
        (λ t. by_number (name_fault_at r n p) (λ z. e h l v t z) (λ m z. d h l v t m z))
        (λ t. c h l v t)))

module _ (b : List ℕ) (g : Bytes b) where
  module _ (r : Recording) (accepted : first_layout.means b ≡ ok r) (n p s : ℕ) where
    names : named_call first_layout b n p ≡ ok s → NamesIt r s n p
    names e =
        let f : named_in r n p ≡ ok s = sym (named_means first_layout b n p accepted) ∙ e in
        by_steps r n p
        (λ h. ok_refused (sym (in_number r n p h) ∙ f))
        (λ h l m q v. ok_refused (sym (named_form r n p (good r n p h l) v) ∙ f))
        (λ h l v t. ok_refused (sym (named_none r n p (good r n p h l) v t) ∙ f))
        (λ h l v t m z. ok_refused (sym (in_fault r n p h l v t z (omega arith)) ∙ f))
        (λ h l v t z. names_it b g r accepted s n p (record {
          some = h;
          there = l;
          formed = v;
          extractor = has_from p (extractors (own r n)) t;
          names_some = z;
          names = ok_same (sym (in_named r n p h l v t z) ∙ f);
        }))

    named_so : NamesIt r s n p → named_call first_layout b n p ≡ ok s
    named_so w =
        let k = it_names b g r accepted s n p w in
        named_means first_layout b n p accepted ∙ in_named r n p k.some k.there k.formed (listed r n p k.extractor) k.names_some ∙ ap ok k.names

    pub named_listed :
        ((named_call first_layout b n p ≡ ok s) ↔ NamesIt r s n p) × ((named_call first_layout b n p ≡ ok s) ↔ (namer n p ∈ naming_list r s))
    named_listed =
        let l = listed_exactly b g r accepted s n p in
        ((names, named_so), (λ e. l.1 (names e), λ m. named_so (l.0 m)))

  module _ (n p : ℕ) where
    because : (r : Recording) → first_layout.means b ≡ ok r → {m q : ℕ} → named_call first_layout b n p ≡ refused m q → NamedRefused b n p m q
    because r f e =
        let x = sym e ∙ named_means first_layout b n p f in
        by_steps r n p
        (λ h. refused_along (NamedRefused b n p) (sym (x ∙ in_number r n p h)) (NamedRefused.number r f h))
        (λ h l m q v. refused_along (NamedRefused b n p) (sym (x ∙ named_form r n p (good r n p h l) v)) (NamedRefused.form r f h l (form_refused (sample_of r n) v)))
        (λ h l v t. refused_along (NamedRefused b n p) (sym (x ∙ named_none r n p (good r n p h l) v t))
        (NamedRefused.none r f h l (formed_rules (sample_of r n) v) (λ m u. true_false (has p (extractors (own r n))) (listed r n p (there_extractor r n p m u)) t)))
        (λ h l v t m z.
        let u = extractor_there r n p (has_from p (extractors (own r n)) t) in
        let w = name_fault_of r (rise b g r f) n (offset_byte b g r f n h l) p z in
        refused_along (NamedRefused b n p) (sym (x ∙ in_fault r n p h l v t z (omega arith))) (NamedRefused.extractor r f h l (formed_rules (sample_of r n) v) u.0 u.1 w.0 w.1))
        (λ h l v t z. ok_refused (x ∙ in_named r n p h l v t z))

    refuses : {m q : ℕ} → NamedRefused b n p m q → named_call first_layout b n p ≡ refused m q
    refuses (NamedRefused.bundle w) = named_bundle first_layout b n p (refused_bundle b g w)
    refuses (NamedRefused.number r f h) = named_means first_layout b n p f ∙ in_number r n p h
    refuses (NamedRefused.form r f h l w) = named_means first_layout b n p f ∙ named_form r n p (good r n p h l) (by_form (sample_of r n) w)
    refuses (NamedRefused.none r f h l v none) = named_means first_layout b n p f ∙ named_none r n p (good r n p h l) (rules_formed (sample_of r n) v)
        (by_bool (has p (extractors (own r n)))
        (λ t. let u = extractor_there r n p (has_from p (extractors (own r n)) t) in absurd (none u.0 u.1))
        (λ t. t))
    refuses (NamedRefused.extractor {m} r f h l v u t w k) =
        let z = name_fault_is r (rise b g r f) n (offset_byte b g r f n h l) p w k in
        named_means first_layout b n p f ∙ in_fault r n p h l (rules_formed (sample_of r n) v) (listed r n p (there_extractor r n p u t)) z (is_fault r (rise b g r f) n (offset_byte b g r f n h l) p w).1

    pub named_refused : (m q : ℕ) → (named_call first_layout b n p ≡ refused m q) ↔ NamedRefused b n p m q
    named_refused m q = (
      λ e. by_answer (first_layout.means b)
          (λ k j f. refused_along (NamedRefused b n p) (sym (named_bundle first_layout b n p f) ∙ e) (NamedRefused.bundle (bundle_refused b g f)))
          (λ r f. because r f e),
      λ w. refuses w,
    )
