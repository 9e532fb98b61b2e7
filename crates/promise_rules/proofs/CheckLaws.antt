-- The proofs of what Demands says of a sample checked outside a bundle. Assumes nothing.
use Rattle.std.specs.Prelude.{None, Some}
use Prim.Native.Nat.{ℕ}
use mathlib.Core.Path.{◌≡◌, refl, sym, ◌∙◌}
use mathlib.Core.List.Memᴰ
use mathlib.Core.List.{List, [], ◌∷◌}
use mathlib.Core.Logic.{◌⊎◌, inl, inr, ⊎_elim, ◌↔◌}
use borrow.Author.Tests.{eqb-true, eqb-false, ne_eqb}
use Rattle.words.specs.Tests.{◌≡?◌}
use Rattle.words.specs.Refusals.{refused, ok}
use Rattle.words.specs.Lists.{◌∈◌}
use Rattle.words.proofs.Tests.{by_bool}
use Rattle.words.proofs.Refusals.{ok_refused, refused_along}
use Rattle.numbers.specs.Kinds.{kind_of}
use Rattle.numbers.specs.Sizes.{in_bytes, length_size_of}
use Rattle.numbers.specs.declared.Kind.{Kind}
use Rattle.numbers.specs.declared.Kind.TheVariants.{Avc, Svc}
use Rattle.numbers.specs.declared.LengthSize.{LengthSize}
use Rattle.numbers.specs.declared.LengthSize.TheVariants.{One, Two, Four}
use Rattle.units.specs.Units.{Sample}
use Rattle.samples.specs.Check.{check, check_alone}
use Rattle.promise_rules.specs.Samples.{Formed, Given}
use Rattle.promise_rules.specs.Refused.{CheckRefused}
use Rattle.promise_rules.proofs.SampleLaws.{formed_rules, rules_formed}
use Rattle.promise_rules.proofs.SampleFaultLaws.{form_refused, by_form}

abbrev pub IsKind : ℕ → Kind → Type 0
IsKind kind k = ((kind ≡ 0) × (k ≡ Avc)) ⊎ ((kind ≡ 1) × (k ≡ Svc))

pub kind_known : (kind : ℕ) (k : Kind) → IsKind kind k → kind_of kind ≡ Some k
kind_known kind k (inl w) = rw (w.0, w.1)
kind_known kind k (inr w) = rw (w.0, w.1)

pub kind_unknown : (kind : ℕ) → (kind ≡ 0 → ⊥) → (kind ≡ 1 → ⊥) → kind_of kind ≡ None
kind_unknown kind a b = rw (ne_eqb kind 0 a, ne_eqb kind 1 b)

pub by_kind : {G : Type 0} (kind : ℕ) → ((k : Kind) → IsKind kind k → G) → ((kind ≡ 0 → ⊥) → (kind ≡ 1 → ⊥) → G) → G
by_kind kind f g = by_bool (kind ≡? 0)
    (λ t. f Avc (inl (eqb-true _ _ t, refl)))
    (λ t. by_bool (kind ≡? 1)
    (λ u. f Svc (inr (eqb-true _ _ u, refl)))
    (λ u. g (eqb-false _ _ t) (eqb-false _ _ u)))

pub size_known : (z : LengthSize) → length_size_of (in_bytes z) ≡ Some z
size_known One = refl
size_known Two = refl
size_known Four = refl

pub by_size : {G : Type 0} (l : ℕ) → ((z : LengthSize) → in_bytes z ≡ l → G) → ((l ∈ (1 ∷ 2 ∷ 4 ∷ []) → ⊥) → length_size_of l ≡ None → G) → G
by_size l f g = by_bool (l ≡? 1)
    (λ t. f One (sym (eqb-true _ _ t)))
    (λ t. by_bool (l ≡? 2)
    (λ u. f Two (sym (eqb-true _ _ u)))
    (λ u. by_bool (l ≡? 4)
    (λ v. f Four (sym (eqb-true _ _ v)))
    (λ v. g
    (λ m. ⊎_elim (eqb-false _ _ t) (λ n. ⊎_elim (eqb-false _ _ u) (λ k. ⊎_elim (eqb-false _ _ v) (λ j. absurd (Memᴰ.not-nil j)) (Memᴰ.cases_cons k)) (Memᴰ.cases_cons n)) (Memᴰ.cases_cons m))
    (rw (t, u, v)))))

pub size_none : (l : ℕ) → (l ∈ (1 ∷ 2 ∷ 4 ∷ []) → ⊥) → length_size_of l ≡ None
size_none l h = by_bool (l ≡? 1)
    (λ t. absurd (h (Memᴰ.head (eqb-true _ _ t))))
    (λ t. by_bool (l ≡? 2)
    (λ u. absurd (h (Memᴰ.tail (Memᴰ.head (eqb-true _ _ u)))))
    (λ u. by_bool (l ≡? 4)
    (λ v. absurd (h (Memᴰ.tail (Memᴰ.tail (Memᴰ.head (eqb-true _ _ v))))))
    (λ v. rw (t, u, v))))

module _ (kind l : ℕ) (s : List ℕ) where
  pub alone : (x : Sample) → Given kind l s x → check_alone kind l s ≡ check x
  alone x w = rw (kind_known kind x.kind w.kind, ← w.size, size_known x.length_size, ← w.content)

  no_kind : (kind ≡ 0 → ⊥) → (kind ≡ 1 → ⊥) → check_alone kind l s ≡ refused 4 0
  no_kind a b = rw (kind_unknown kind a b)

  no_size : (k : Kind) → IsKind kind k → (l ∈ (1 ∷ 2 ∷ 4 ∷ []) → ⊥) → check_alone kind l s ≡ refused 11 0
  no_size k h u = rw (kind_known kind k h, size_none l u)

  pub one_kind : (k : Kind) → IsKind kind k → (kind ≡ 0) ⊎ (kind ≡ 1)
  one_kind k (inl w) = inl w.0
  one_kind k (inr w) = inr w.0

  pub kind_one : (kind ≡ 0) ⊎ (kind ≡ 1) → (k : Kind) × IsKind kind k
  kind_one (inl e) = (Avc, inl (e, refl))
  kind_one (inr e) = (Svc, inr (e, refl))

  pub check_exactly : (check_alone kind l s ≡ ok tt) ↔ ((x : Sample) × Given kind l s x × Formed x)
  check_exactly = (
    λ e. by_kind kind
        (λ k h. by_size l
        (λ z q.
        let x : Sample = record { kind = k; length_size = z; content = s } in
        let w : Given kind l s x = record { kind = h; size = q; content = refl } in
        (x, w, formed_rules x (sym (alone x w) ∙ e)))
        (λ u v. ok_refused (sym (no_size k h u) ∙ e)))
        (λ a b. ok_refused (sym (no_kind a b) ∙ e)),
    λ w. alone w.0 w.1 ∙ rules_formed w.0 w.2,
  )

  refuses : {m p : ℕ} → CheckRefused kind l s m p → check_alone kind l s ≡ refused m p
  refuses (CheckRefused.kind a b) = no_kind a b
  refuses (CheckRefused.size h u) = let k = kind_one h in no_size k.0 k.1 u
  refuses (CheckRefused.form x w f) = alone x w ∙ by_form x f

  pub check_refused : (m p : ℕ) → (check_alone kind l s ≡ refused m p) ↔ CheckRefused kind l s m p
  check_refused m p = (
    λ e. by_kind kind
        (λ k h. by_size l
        (λ z q.
        let x : Sample = record { kind = k; length_size = z; content = s } in
        let w : Given kind l s x = record { kind = h; size = q; content = refl } in
        CheckRefused.form x w (form_refused x (sym (alone x w) ∙ e)))
        (λ u v. refused_along (CheckRefused kind l s) (sym (no_size k h u) ∙ e) (CheckRefused.size (one_kind k h) u)))
        (λ a b. refused_along (CheckRefused kind l s) (sym (no_kind a b) ∙ e) (CheckRefused.kind a b)),
    refuses,
  )
