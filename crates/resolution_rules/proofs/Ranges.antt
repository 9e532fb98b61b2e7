-- Laws of samples first to last, one after the other. Assumes nothing.
--
--   between_none, -more, -split, -all             the numbers: none; one more; in two; from 1 on
--   between_one, between_first                    n to n; n, then those after it
--   between_mem, between_from                     membership, both ways
--   between_length                                how many
--   range_good, range_bad, by_range, range_there  30
--   given_refused, given_good                     what a sample adds: nothing if it is refused, else what it delivers
--   joined_none, -more, -append, -cong            what samples add, joined
use Prim.Native.Nat.{ℕ, zero, suc, ◌+◌, ◌-◌, ◌≤◌, ◌<◌}
use mathlib.Core.Path.{◌≡◌, refl, ap, ap₂, sym, ◌∙◌}
use mathlib.Core.List.{List, [], ◌∷◌, ◌++◌, append_assoc, append-nil}
use mathlib.Core.Logic.{◌⊎◌, inl, inr}
use native.Mathlib.Omega.{arith}
use native.Mathlib.Numerals.{add-one}
use borrow.Author.Tests.{le-ltb, lt-ltb, ltb-true, ltb-false, le-leb, lt-leb, leb-true, leb-false, ne_eqb, eqb-true, eqb-false}
use lib.Dec.{ltb, leb, eqb}
use lib.ListN.{length, length-append}
use Rattle.words.specs.Tests.{◌≤?◌}
use Rattle.words.specs.Refusals.{refused, ok}
use Rattle.words.specs.RefusalNumbers.{no_such_number}
use Rattle.words.specs.Lists.{keep, each, upto, ◌∈◌}
use Rattle.words.proofs.Tests.{by_bool}
use Rattle.words.proofs.Lists.{each_cong, each_append, keep_append, keep_nothing, keep_mem, keep_from, upto_mem, upto_from}
use Rattle.bundles.specs.Recordings.{Recording, sample_count}
use Rattle.resolution_rules.specs.Resolving.{delivered, judged}
use Rattle.resolution_rules.specs.Calls.{output, resolve}
use Rattle.resolution_rules.specs.Ranges.{between, range_fault, given, joined}
use Rattle.resolution_rules.proofs.Calls.{resolve_sample, resolve_good}

-- first, first + 1, .. last
module _ (first : ℕ) where
  pub between_none : (last : ℕ) → last < first → between first last ≡ []
  unfolding between
  between_none last h = keep_nothing (λ n. first ≤? n) (upto last) (λ n m. let w = upto_from last n m in lt-leb first n (omega arith))

  next : (n : ℕ) → first ≤ suc n → between first (suc n) ≡ between first n ++ (suc n ∷ [])
  unfolding between upto keep
  next n h = keep_append (λ n. first ≤? n) (upto n) (suc n ∷ []) ∙ rw (le-leb first (suc n) h)

  pub between_more : (n : ℕ) → first ≤ n + 1 → between first (n + 1) ≡ between first n ++ ((n + 1) ∷ [])
  between_more n h = rw (add-one n) (next n (omega arith))

  pub between_mem : (last n : ℕ) → 0 < n → first ≤ n → n ≤ last → n ∈ between first last
  unfolding between
  between_mem last n h i j = keep_mem (λ n. first ≤? n) (upto last) (upto_mem last n h j) (le-leb first n i)

  pub between_from : (last n : ℕ) → n ∈ between first last → (0 < n) × (first ≤ n) × (n ≤ last)
  unfolding between
  between_from last n m =
      let k = keep_from (λ n. first ≤? n) (upto last) m in
      let u = upto_from last n k.0 in
      (u.0, leb-true first n k.1, u.1)

  pub between_length : (last : ℕ) → 0 < first → first ≤ last + 1 → length (between first last) ≡ last + 1 - first
  between_length zero h l = rw (between_none zero (omega arith)) (omega arith)
  between_length (suc n) h l = by_bool (leb first (suc n))
      (λ t.
      let i = leb-true first (suc n) t in
      let e = between_length n h (omega arith) in
      let s = ap length (next n i) ∙ length-append (between first n) (suc n ∷ []) in
      omega arith)
      (λ t. let i = leb-false first (suc n) t in rw (between_none (suc n) (omega arith)) (omega arith))

-- in two, after mid
pub between_split : (first mid last : ℕ) → first ≤ mid + 1 → mid ≤ last → between first last ≡ between first mid ++ between (mid + 1) last
between_split first mid zero h l =
    let e : mid ≡ 0 = omega arith in
    rw (e, between_none 1 0 (omega arith)) (sym (append-nil (between first 0)))
between_split first mid (suc n) h l =
    let below = between_split first mid n h in
    by_bool (leb mid n)
    (λ t.
    let i = leb-true mid n t in
    next first n (omega arith) ∙ ap (λ (x : List ℕ). x ++ (suc n ∷ [])) (below i) ∙ append_assoc (between first mid) (between (mid + 1) n) (suc n ∷ [])
    ∙ ap (λ (x : List ℕ). between first mid ++ x) (sym (next (mid + 1) n (omega arith))))
    (λ t.
    let i = leb-false mid n t in
    let e : mid ≡ suc n = omega arith in
    rw (e, between_none (suc n + 1) (suc n) (omega arith)) (sym (append-nil (between first (suc n)))))

pub between_all : (n : ℕ) → between 1 n ≡ upto n
unfolding upto
between_all zero = between_none 1 zero (omega arith)
between_all (suc n) = next 1 n (omega arith) ∙ ap (λ (x : List ℕ). x ++ (suc n ∷ [])) (between_all n)

pub between_one : (n : ℕ) → 0 < n → between n n ≡ n ∷ []
between_one n h =
    let e : n - 1 + 1 ≡ n = omega arith in
    let w : between n (n - 1 + 1) ≡ between n (n - 1) ++ ((n - 1 + 1) ∷ []) = between_more n (n - 1) (omega arith) in
    let v : between n (n - 1) ≡ [] = between_none n (n - 1) (omega arith) in
    ap (between n) (sym e) ∙ w ∙ ap₂ (λ (x : List ℕ) (k : ℕ). x ++ (k ∷ [])) v e

pub between_first : (n last : ℕ) → 0 < n → n ≤ last → between n last ≡ n ∷ between (n + 1) last
between_first n last h l = between_split n n last (omega arith) l ∙ ap (λ (x : List ℕ). x ++ between (n + 1) last) (between_one n h)

-- 30
module _ (count first last : ℕ) where
  pub range_good : 0 < first → last ≤ count → first ≤ last → range_fault count first last ≡ 0
  unfolding range_fault
  range_good h l i = rw (ne_eqb first 0 (λ z. absurd (omega arith)), le-ltb count last l, le-ltb last first i)

  pub range_bad : (first ≡ 0) ⊎ ((count < last) ⊎ (last < first)) → range_fault count first last ≡ no_such_number
  unfolding range_fault
  range_bad (inl e) = rw e
  range_bad (inr (inl h)) = by_bool (eqb first 0) (λ t. rw t) (λ t. rw (t, lt-ltb count last h))
  range_bad (inr (inr h)) = by_bool (eqb first 0)
      (λ t. rw t)
      (λ t. by_bool (ltb count last) (λ s. rw (t, s)) (λ s. rw (t, s, lt-ltb last first h)))

  pub by_range : {G : Type 0} → ((first ≡ 0) ⊎ ((count < last) ⊎ (last < first)) → G) → (0 < first → last ≤ count → first ≤ last → G) → G
  by_range f g = by_bool (eqb first 0)
      (λ q. f (inl (eqb-true first 0 q)))
      (λ q. let z = eqb-false first 0 q in by_bool (ltb count last)
      (λ t. f (inr (inl (ltb-true count last t))))
      (λ t. by_bool (ltb last first)
      (λ s. f (inr (inr (ltb-true last first s))))
      (λ s. g (omega arith) (ltb-false count last t) (ltb-false last first s))))

  pub range_there : range_fault count first last ≡ 0 → (0 < first) × (last ≤ count) × (first ≤ last)
  range_there e = by_range (λ h. let z = sym (range_bad h) ∙ e in absurd (omega arith)) (λ h l i. (h, l, i))

-- what a sample adds
module _ (r : Recording) (n : ℕ) (h : 0 < n) (l : n ≤ sample_count r.layout) where
  pub given_refused : {m p : ℕ} → judged r n ≡ refused m p → given (resolve r n) ≡ []
  given_refused e = ap given (resolve_sample r n h l e)

  pub given_good : judged r n ≡ ok tt → given (resolve r n) ≡ output r (delivered r n)
  given_good e = ap given (resolve_good r n h l e)

-- joined
module _ (r : Recording) where
  pub joined_none : joined r [] ≡ []
  unfolding joined each
  joined_none = refl

  pub joined_append : (ns ms : List ℕ) → joined r (ns ++ ms) ≡ joined r ns ++ joined r ms
  unfolding joined
  joined_append ns ms = each_append (λ n. given (resolve r n)) ns ms

  pub joined_more : (ns : List ℕ) (n : ℕ) → joined r (ns ++ (n ∷ [])) ≡ joined r ns ++ given (resolve r n)
  unfolding joined each
  joined_more ns n = joined_append ns (n ∷ []) ∙ ap (λ (x : List ℕ). joined r ns ++ x) (append-nil (given (resolve r n)))

pub joined_cong : (r s : Recording) (ns : List ℕ) → ((n : ℕ) → n ∈ ns → resolve r n ≡ resolve s n) → joined r ns ≡ joined s ns
unfolding joined
joined_cong r s ns h = each_cong (λ n. given (resolve r n)) (λ n. given (resolve s n)) ns (λ n m. ap given (h n m))
