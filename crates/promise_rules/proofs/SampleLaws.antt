-- The proofs of what Demands says of samples. Assumes nothing.
use Prim.Native.Nat.{ℕ, ◌+◌, ◌≤◌, ◌<◌}
use mathlib.Core.Path.{◌≡◌, refl, sym, ◌∙◌}
use mathlib.Core.Bool.{true, false}
use mathlib.Core.List.Memᴰ
use mathlib.Core.List.{[], ◌∷◌}
use mathlib.Core.Logic.{⊎_elim, ◌↔◌}
use native.Mathlib.Omega.{arith}
use borrow.Author.Tests.{eqb-true, eqb-false, ne_eqb, eq-eqb, leb-true, le-leb}
use Rattle.words.specs.Tests.{◌≤?◌, ◌≡?◌}
use Rattle.words.specs.Refusals.{ok, first}
use Rattle.words.specs.Lists.{◌∈◌}
use Rattle.words.proofs.Tests.{by_bool, true_false}
use Rattle.words.proofs.Refusals.{and_ok, at_ok, at_none, first_ok, first_all, by_verdict, ok_refused}
use Rattle.words.proofs.Lists.{is_or_from, is_or_mem}
use Rattle.numbers.specs.Kinds.{is_avc}
use Rattle.numbers.specs.declared.Kind.{Kind}
use Rattle.numbers.specs.declared.Kind.TheVariants.{Avc, Svc}
use Rattle.units.specs.Units.{Sample, L, end, size, type, next, is_aggregator, least_size, top_units, border}
use Rattle.units.specs.Aggregators.{is_slice, included, cover_end, cover_fault}
use Rattle.units.specs.Rules.{Whole, Included}
use Rattle.units.proofs.Units.{extractor_size_lem, extractor_none, included_rules, included_none}
use Rattle.units.proofs.Covers.{cover_good, cover_border, cover_clear}
use Rattle.samples.specs.Check.{content_verdict, top_verdict, contents_verdict, check}
use Rattle.samples.proofs.Walks.{included_judge, top_whole, whole_top, content_included, content_cover, content_other}
use Rattle.promise_rules.specs.Samples.{UnitAt, BorderAt, IncludedAt, CoverAt, ContentAt, Formed}

module _ (x : Sample) where
  -- a unit
  pub least_header : (t n : ℕ) → least_size x t ≤ n → t ∈ (14 ∷ 20 ∷ 31 ∷ []) → 4 ≤ n
  least_header t n h m = ⊎_elim (λ e. rw e at h)
      (λ m1. ⊎_elim (λ e. rw e at h)
      (λ m2. ⊎_elim (λ e. rw e at h) (λ l. absurd (Memᴰ.not-nil l)) (Memᴰ.cases_cons m2))
      (Memᴰ.cases_cons m1))
      (Memᴰ.cases_cons m)

  pub least_aggregator_lem : (t n : ℕ) → least_size x t ≤ n → t ≡ 30 → 4 + L x ≤ n
  least_aggregator_lem t n h e = rw e at h

  least : (t n : ℕ) → 0 < n → (t ∈ (14 ∷ 20 ∷ 31 ∷ []) → 4 ≤ n) → (t ≡ 30 → 4 + L x ≤ n) → least_size x t ≤ n
  least t n s h g = by_bool (t ≡? 30)
      (λ q. rw q (g (eqb-true _ _ q)))
      (λ q. by_bool (t ≡? 14)
      (λ a. rw (q, a) (h (Memᴰ.head (eqb-true _ _ a))))
      (λ a. by_bool (t ≡? 20)
      (λ c. rw (q, a, c) (h (Memᴰ.tail (Memᴰ.head (eqb-true _ _ c)))))
      (λ c. by_bool (t ≡? 31)
      (λ d. rw (q, a, c, d) (h (Memᴰ.tail (Memᴰ.tail (Memᴰ.head (eqb-true _ _ d))))))
      (λ d. rw (q, a, c, d) s))))

  pub unit_at : (e p : ℕ) → Whole x e p → UnitAt x e p
  unit_at e p w =
      record {
        field = w.room;
        inside = w.inside;
        some = w.some;
        top = w.top;
        header = least_header (type x p) (size x p) w.least;
        aggregator = least_aggregator_lem (type x p) (size x p) w.least;
      }

  pub whole_at : (e p : ℕ) → UnitAt x e p → Whole x e p
  whole_at e p w =
      record {
        room = w.field;
        inside = w.inside;
        some = w.some;
        top = w.top;
        least = least (type x p) (size x p) w.some w.header w.aggregator;
      }

  pub border_at : (q : ℕ) → border x q ≡ true → BorderAt x q
  unfolding border
  border_at q e = is_or_from q (end x) (top_units x) e

  pub at_border : (q : ℕ) → BorderAt x q → border x q ≡ true
  unfolding border
  at_border q b = is_or_mem q (end x) (top_units x) b

  pub is_avc_lem : (k : Kind) → is_avc k ≡ true → k ≡ Avc
  is_avc_lem Avc e = refl
  is_avc_lem Svc e = true_false false e refl

  pub included_at : (e q : ℕ) → Included x e q → IncludedAt x e q
  included_at e q w =
      record {
        unit = unit_at e q w.unit;
        flat = eqb-false _ _ w.flat;
        slice = λ k a b. true_false (is_slice (type x q)) (rw (le-leb 1 (type x q) a, le-leb (type x q) 5 b)) (w.slice (rw k));
        extractor = λ t. w.extractor (eq-eqb _ _ t);
      }

  pub slice_none : (t : ℕ) → (1 ≤ t → t ≤ 5 → ⊥) → is_slice t ≡ false
  slice_none t h = by_bool (1 ≤? t)
      (λ a. by_bool (t ≤? 5) (λ b. absurd (h (leb-true _ _ a) (leb-true _ _ b))) (λ b. rw (a, b)))
      (λ a. rw a)

  pub at_included : (e q : ℕ) → IncludedAt x e q → Included x e q
  at_included e q w =
      record {
        unit = whole_at e q w.unit;
        flat = ne_eqb _ _ w.flat;
        slice = λ k. slice_none (type x q) (w.slice (is_avc_lem x.kind k));
        extractor = λ t. w.extractor (eqb-true _ _ t);
      }

  -- 21
  pub cover_at : (p : ℕ) → cover_fault x p ≡ 0 → CoverAt x p
  cover_at p e = record { ends = border_at (cover_end x p) (cover_border x p e); clear = λ q m a b. eqb-false _ _ (cover_clear x p e q m a b) }

  pub at_cover : (p : ℕ) → CoverAt x p → cover_fault x p ≡ 0
  at_cover p w = cover_good x p (at_border (cover_end x p) w.ends) (λ q m a b. ne_eqb _ _ (w.clear q m a b))

  -- what stands in a top-level unit
  pub included_all : (p : ℕ) → ((q : ℕ) → q ∈ included x p → IncludedAt x (next x p) q) → first (included_judge x (next x p)) (included x p) ≡ ok tt
  included_all p h = first_all (included_judge x (next x p)) (included x p) (λ q m. at_none q (included_none x (next x p) q (at_included (next x p) q (h q m))))

  pub all_included : (p : ℕ) → first (included_judge x (next x p)) (included x p) ≡ ok tt → (q : ℕ) → q ∈ included x p → IncludedAt x (next x p) q
  all_included p e q m =
      included_at (next x p) q (included_rules x (next x p) q (at_ok _ q (first_ok (included_judge x (next x p)) (included x p) e m)))

  pub content_at_lem : (p : ℕ) → content_verdict x p ≡ ok tt → ContentAt x p
  content_at_lem p e = by_bool (is_aggregator x p)
      (λ t. let k : type x p ≡ 30 = eqb-true _ _ t in by_verdict (first (included_judge x (next x p)) (included x p))
      (λ a b c. ok_refused (sym (content_included x p t c) ∙ e))
      (λ c. record {
        inside = λ u. all_included p c;
        covers = λ u. cover_at p (at_ok _ p (sym (content_cover x p t c) ∙ e));
        extractor = λ u. absurd (omega arith);
      }))
      (λ t. record {
        inside = λ u. true_false _ (eq-eqb _ _ u) t;
        covers = λ u. true_false _ (eq-eqb _ _ u) t;
        extractor = λ u. extractor_size_lem x p (at_ok _ p (sym (content_other x p t) ∙ e)) (eq-eqb _ _ u);
      })

  pub at_content : (p : ℕ) → ContentAt x p → content_verdict x p ≡ ok tt
  at_content p w = by_bool (is_aggregator x p)
      (λ t. let k = eqb-true _ _ t in content_cover x p t (included_all p (w.inside k)) ∙ at_none p (at_cover p (w.covers k)))
      (λ t. content_other x p t ∙ at_none p (extractor_none x p (λ u. w.extractor (eqb-true _ _ u))))

  pub tops_at : top_verdict x ≡ ok tt → (p : ℕ) → p ∈ top_units x → UnitAt x (end x) p
  tops_at v p m = unit_at (end x) p (top_whole x v p m)

  pub at_tops : ((p : ℕ) → p ∈ top_units x → UnitAt x (end x) p) → top_verdict x ≡ ok tt
  at_tops h = whole_top x (λ p m. whole_at (end x) p (h p m))

  pub formed_rules : check x ≡ ok tt → Formed x
  unfolding check
  formed_rules e =
      let v = and_ok (top_verdict x) (contents_verdict x) e in
      record { tops = tops_at v.0; contents = λ p m. content_at_lem p (first_ok (content_verdict x) (top_units x) v.1 m) }

  pub rules_formed : Formed x → check x ≡ ok tt
  unfolding check
  rules_formed f = rw (at_tops f.tops) (first_all (content_verdict x) (top_units x) (λ p m. at_content p (f.contents p m)))

  pub formed_exactly : (check x ≡ ok tt) ↔ Formed x
  formed_exactly = (formed_rules, rules_formed)
