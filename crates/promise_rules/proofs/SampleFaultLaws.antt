-- The proofs of what Demands says of a sample that is not well formed. Assumes nothing.
--
--   unit_judged, included_judged    the refusal number of a unit, top-level or included, is that of its fault
--   cover_21, content_refused       21; what stands in a top-level unit
--   form_refused, by_form           the check refuses exactly as FormRefused says
use Prim.Native.Nat.{ℕ, ◌+◌, ◌*◌, ◌≤◌, ◌<◌}
use mathlib.Core.Path.{◌≡◌, refl, ap, sym, ◌∙◌, subst}
use mathlib.Core.Bool.{true, false, ◌&&◌, not}
use mathlib.Core.List.Memᴰ
use mathlib.Core.List.{[], ◌∷◌}
use native.Mathlib.Omega.{arith}
use native.Mathlib.Nat.{pos_of_ne-zero}
use borrow.Author.Tests.{ltb-true, ltb-false, lt-ltb, le-ltb, leb-true, leb-false, le-leb, lt-leb, eqb-true, eqb-false, eq-eqb, ne_eqb, not-true}
use Rattle.words.specs.Tests.{◌<?◌, ◌≤?◌, ◌≡?◌}
use Rattle.words.specs.Refusals.{◌if◌, refused, first}
use Rattle.words.specs.Lists.{◌∈◌, some}
use Rattle.words.proofs.Tests.{by_bool, by_number, and_both}
use Rattle.words.proofs.Refusals.{at_from, by_verdict, NoneOr, none_or_if, none_or_or_else, none_or_some}
use Rattle.numbers.specs.Kinds.{is_avc}
use Rattle.numbers.specs.Sizes.{extractor_size}
use Rattle.units.specs.Units.{Sample, L, end, size, first_byte, type, next, is_aggregator, is_extractor, least_size, unit_fault, top_units, border, top_between}
use Rattle.units.specs.Extractors.{extractor_fault}
use Rattle.units.specs.Aggregators.{is_slice, included, included_fault, cover_end, cover_fault}
use Rattle.units.proofs.Units.{whole, whole_none, included_rules, included_none}
use Rattle.samples.specs.Check.{content_verdict, top_verdict, check}
use Rattle.samples.proofs.Walks.{included_judge, content_included, content_cover, content_other}
use Rattle.promise_rules.specs.Samples.{UnitAt, IncludedAt, CoverAt, ContentAt}
use Rattle.promise_rules.specs.SampleFaults.{UnitFault, IncludedFault, SecondAt, FormRefused}
use Rattle.promise_rules.proofs.FirstLaws.{Judges, at_some, or_else_some, first_in, in_first, first_fault_lem, fault_first}
use Rattle.promise_rules.proofs.SampleLaws.{unit_at, whole_at, included_at, at_included, least_header, least_aggregator_lem, is_avc_lem, cover_at, at_cover, included_all, all_included, content_at_lem, at_content, tops_at, at_tops}

module _ (x : Sample) where
  -- a size too small for its type
  by_least :
      {G : Type 0} (t n : ℕ) → 0 < n → n < least_size x t → (t ∈ (14 ∷ 20 ∷ 31 ∷ []) → n < 4 → G) → (t ≡ 30 → n < 4 + L x → G) → G
  by_least t n s h f g = by_bool (t ≡? 30)
      (λ q. g (eqb-true _ _ q) (rw q at h))
      (λ q. by_bool (t ≡? 14)
      (λ a. f (Memᴰ.head (eqb-true _ _ a)) (rw (q, a) at h))
      (λ a. by_bool (t ≡? 20)
      (λ c. f (Memᴰ.tail (Memᴰ.head (eqb-true _ _ c))) (rw (q, a, c) at h))
      (λ c. by_bool (t ≡? 31)
      (λ d. f (Memᴰ.tail (Memᴰ.tail (Memᴰ.head (eqb-true _ _ d)))) (rw (q, a, c, d) at h))
      (λ d. let z : n < 1 = rw (q, a, c, d) at h in absurd (omega arith)))))

  module _ (e p : ℕ) where
    -- 14 to 18, both ways
    too_short : (least_size x (type x p) ≤ size x p → ⊥) → (size x p <? least_size x (type x p)) ≡ true
    too_short h = by_bool (size x p <? least_size x (type x p)) (λ q. q) (λ q. absurd (h (ltb-false _ _ q)))

    unit_18 :
        p + L x + size x p ≤ e → 0 < size x p → first_byte x p < 128 → (least_size x (type x p) ≤ size x p → ⊥) →
        (unit_fault x e p ≡ 18) × (0 < 18)
    unfolding unit_fault
    unit_18 h s t l =
        (rw (le-ltb e (p + L x) (omega arith), le-ltb e (next x p) h, ne_eqb (size x p) 0 (λ z. omega arith), lt-leb 128 (first_byte x p) t, too_short l), omega arith)

    unit_is : {m : ℕ} → UnitFault x e p m → (unit_fault x e p ≡ m) × (0 < m)
    unfolding unit_fault
    unit_is (UnitFault.cut h) = (rw (lt-ltb e (p + L x) h), omega arith)
    unit_is (UnitFault.long h l) = (rw (le-ltb e (p + L x) h, lt-ltb e (next x p) l), omega arith)
    unit_is (UnitFault.empty h z) = (rw (le-ltb e (p + L x) (omega arith), le-ltb e (next x p) h, eq-eqb (size x p) 0 z), omega arith)
    unit_is (UnitFault.top h s t) =
        (rw (le-ltb e (p + L x) (omega arith), le-ltb e (next x p) h, ne_eqb (size x p) 0 (λ z. omega arith), le-leb 128 (first_byte x p) t), omega arith)
    unit_is (UnitFault.header h s t k l) = unit_18 h s t (λ w. let g = least_header x (type x p) (size x p) w k in omega arith)
    unit_is (UnitFault.aggregator h s t k l) = unit_18 h s t (λ w. let g = least_aggregator_lem x (type x p) (size x p) w k in omega arith)

    unit_some : 0 < unit_fault x e p → UnitFault x e p (unit_fault x e p)
    unfolding unit_fault
    unit_some h = by_bool (e <? p + L x)
        (λ a. rw a (UnitFault.cut (ltb-true _ _ a)))
        (λ a. by_bool (e <? next x p)
        (λ b. rw (a, b) (UnitFault.long (ltb-false _ _ a) (ltb-true _ _ b)))
        (λ b. by_bool (size x p ≡? 0)
        (λ c. rw (a, b, c) (UnitFault.empty (ltb-false _ _ b) (eqb-true _ _ c)))
        (λ c. let s : 0 < size x p = pos_of_ne-zero (eqb-false _ _ c) in
        by_bool (128 ≤? first_byte x p)
        (λ d. rw (a, b, c, d) (UnitFault.top (ltb-false _ _ b) s (leb-true _ _ d)))
        (λ d. by_bool (size x p <? least_size x (type x p))
        (λ f. rw (a, b, c, d, f) (by_least (type x p) (size x p) s (ltb-true _ _ f)
        (λ k l. UnitFault.header (ltb-false _ _ b) s (leb-false _ _ d) k l)
        (λ k l. UnitFault.aggregator (ltb-false _ _ b) s (leb-false _ _ d) k l)))
        (λ f. let z : 0 < 0 = rw (a, b, c, d, f) at h in absurd (omega arith))))))

    pub unit_judged : Judges (unit_fault x e p) (UnitFault x e p) (UnitAt x e p)
    unit_judged =
        record {
          good = λ z. unit_at x e p (whole x e p z);
          none = λ w. whole_none x e p (whole_at x e p w);
          because = unit_some;
          refuses = λ m w. unit_is w;
        }

    -- 14 to 18, then 19, 20, 22
    extractor_22 : type x p ≡ 31 → (size x p ≡ 6 + 2 * L x → ⊥) → extractor_fault x p ≡ 22
    extractor_22 t s = rw (eq-eqb (type x p) 31 t, ne_eqb (size x p) (6 + 2 * L x) s)

    extractor_some : 0 < extractor_fault x p → (type x p ≡ 31) × (size x p ≡ 6 + 2 * L x → ⊥)
    extractor_some h = by_bool (is_extractor x p && not (size x p ≡? extractor_size x.length_size))
        (λ c. let i = and_both (is_extractor x p) (not (size x p ≡? extractor_size x.length_size)) c in
        (eqb-true _ _ i.0, eqb-false _ _ (not-true _ i.1)))
        (λ c. let z : 0 < 0 = rw c at h in absurd (omega arith))

    no_slice : (t : ℕ) → 5 < t → (is_avc x.kind && is_slice t) ≡ false
    no_slice t h = rw (lt-leb t 5 h) (by_bool (is_avc x.kind) (λ a. by_bool (1 ≤? t) (λ b. rw (a, b)) (λ b. rw (a, b))) (λ a. rw a))

    included_is : {m : ℕ} → IncludedFault x e p m → (included_fault x e p ≡ m) × (0 < m)
    unfolding included_fault
    included_is {m} (IncludedFault.unit w) = let u = unit_is w in (or_else_some (unit_fault x e p) m _ u, u.1)
    included_is (IncludedFault.nested w t) = (rw (unit_judged.none w, eq-eqb (type x p) 30 t), omega arith)
    included_is (IncludedFault.slice w k a b) =
        (rw (unit_judged.none w, ne_eqb (type x p) 30 (λ z. omega arith), ap is_avc k, le-leb 1 (type x p) a, le-leb (type x p) 5 b), omega arith)
    included_is (IncludedFault.extractor w t s) =
        (rw (unit_judged.none w, ne_eqb (type x p) 30 (λ z. omega arith)) (rw (no_slice (type x p) (omega arith)) (extractor_22 t s)), omega arith)

    included_some : 0 < included_fault x e p → IncludedFault x e p (included_fault x e p)
    unfolding included_fault
    included_some h = by_number (unit_fault x e p)
        (λ z. let w = unit_judged.good z in
        by_bool (is_aggregator x p)
        (λ a. rw (z, a) (IncludedFault.nested w (eqb-true _ _ a)))
        (λ a. by_bool (is_avc x.kind && is_slice (type x p))
        (λ b. let i = and_both (is_avc x.kind) (is_slice (type x p)) b in
        let j = and_both (1 ≤? type x p) (type x p ≤? 5) i.1 in
        rw (z, a, b) (IncludedFault.slice w (is_avc_lem x x.kind i.0) (leb-true _ _ j.0) (leb-true _ _ j.1)))
        (λ b. let i = extractor_some (rw (z, a, b) at h) in
        rw (z, a, b, extractor_22 i.0 i.1) (IncludedFault.extractor w i.0 i.1))))
        (λ k z. rw z (IncludedFault.unit (subst (UnitFault x e p) z (unit_some (omega arith)))))

    pub included_judged : Judges (included_fault x e p) (IncludedFault x e p) (IncludedAt x e p)
    included_judged =
        record {
          good = λ z. included_at x e p (included_rules x e p z);
          none = λ w. included_none x e p (at_included x e p w);
          because = included_some;
          refuses = λ m w. included_is w;
        }

  -- 21
  cover_number : (p : ℕ) → NoneOr (21 ∷ []) (cover_fault x p)
  unfolding cover_fault
  cover_number p = none_or_or_else _ (21 if not (border x (cover_end x p))) (21 if some (is_aggregator x) (top_between x (next x p) (cover_end x p)))
      (none_or_if _ 21 (not (border x (cover_end x p))) (Memᴰ.head refl))
      (none_or_if _ 21 (some (is_aggregator x) (top_between x (next x p) (cover_end x p))) (Memᴰ.head refl))

  cover_21 : (p : ℕ) → (CoverAt x p → ⊥) → (cover_fault x p ≡ 21) × (0 < 21)
  cover_21 p h = (Memᴰ.eq_of_singleton (none_or_some _ (cover_number p) (pos_of_ne-zero (λ z. h (cover_at x p z)))), omega arith)

  -- what stands in a top-level unit
  content_refused : (p : ℕ) → SecondAt x p → {m q : ℕ} → content_verdict x p ≡ refused m q → FormRefused x m q
  content_refused p s {m} {q} v = by_bool (is_aggregator x p)
      (λ t. let k = eqb-true _ _ t in
      by_verdict (first (included_judge x (next x p)) (included x p))
      (λ a b c.
      let w = first_fault_lem (included_fault x (next x p)) (λ r. r) (IncludedAt x (next x p)) (IncludedFault x (next x p)) (included x p) (λ r i. included_judged (next x p) r) (c ∙ (sym (content_included x p t c) ∙ v)) in
      subst (FormRefused x m) w.3 (FormRefused.inside s k w.1 w.2))
      (λ c.
      let a = at_from (cover_fault x p) p (sym (content_cover x p t c) ∙ v) in
      let i : cover_fault x p ≡ 21 = Memᴰ.eq_of_singleton (none_or_some _ (cover_number p) a.2) in
      at_place (sym i ∙ a.0) a.1 (FormRefused.cover s k (all_included x p c) (λ w. let z = at_cover x p w in absurd (omega arith)))))
      (λ t.
      let a = at_from (extractor_fault x p) p (sym (content_other x p t) ∙ v) in
      let i = extractor_some p p a.2 in
      at_place (sym (extractor_22 p p i.0 i.1) ∙ a.0) a.1 (FormRefused.extractor s i.0 i.1))
    where
      at_place : {n r : ℕ} → n ≡ m → r ≡ q → FormRefused x n r → FormRefused x m q
      at_place {n} {r} e f w = subst (FormRefused x m) f (subst (λ (i : ℕ). FormRefused x i r) e w)

  pub form_refused : {m p : ℕ} → check x ≡ refused m p → FormRefused x m p
  unfolding check
  form_refused {m} {p} e = by_verdict (top_verdict x)
      (λ a b v.
      let w = first_fault_lem (unit_fault x (end x)) (λ q. q) (UnitAt x (end x)) (UnitFault x (end x)) (top_units x) (λ q k. unit_judged (end x) q) (v ∙ (rw v at e)) in
      subst (FormRefused x m) w.3 (FormRefused.top w.1 w.2))
      (λ v.
      let w = first_in (content_verdict x) (ContentAt x) (top_units x) (λ q k. content_at_lem x q) (rw v at e) in
      content_refused w.0 (record { tops = tops_at x v; before = w.2 }) w.3)

  -- back
  second : (p : ℕ) → SecondAt x p → {m q : ℕ} → content_verdict x p ≡ refused m q → check x ≡ refused m q
  unfolding check
  second p s v = rw (at_tops x s.tops) (in_first (content_verdict x) (ContentAt x) (λ r k. at_content x r) s.before v)

  pub by_form : {m p : ℕ} → FormRefused x m p → check x ≡ refused m p
  unfolding check
  by_form (FormRefused.top w f) =
      rw (fault_first (unit_fault x (end x)) (λ q. q) (UnitAt x (end x)) (UnitFault x (end x)) (top_units x) (λ q k. unit_judged (end x) q) w f)
  by_form (FormRefused.inside {p = p} s t w f) =
      second p s (content_included x p (eq-eqb _ _ t)
      (fault_first (included_fault x (next x p)) (λ r. r) (IncludedAt x (next x p)) (IncludedFault x (next x p)) (included x p) (λ r i. included_judged (next x p) r) w f))
  by_form (FormRefused.cover {p} s t i c) = second p s (content_cover x p (eq-eqb _ _ t) (included_all x p i) ∙ at_some p (cover_21 p c))
  by_form (FormRefused.extractor {p} s t z) =
      second p s (content_other x p (ne_eqb (type x p) 30 (λ u. omega arith)) ∙ at_some p (extractor_22 p p t z, omega arith))
