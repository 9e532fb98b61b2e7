-- A walk over the numbers 1, 2, .. n, each judged at its place. Assumes nothing.
--
--   Passed                                  the first i numbers have no refusal
--   Earliest, first_earlier                 the first number that is refused: those before it are not
--   passed_start, -next, -refused, -end     no number yet; one more; the next is refused; all are passed
use Prim.Native.Nat.{ℕ, zero, suc, ◌+◌, ◌≤◌, ◌<◌}
use mathlib.Core.Path.{◌≡◌, refl, sym, ◌∙◌}
use mathlib.Core.List.{[], ◌∷◌}
use native.Mathlib.Omega.{arith}
use Rattle.words.specs.Refusals.{refused, ok, ◌at_place◌, first}
use Rattle.words.specs.Lists.{upto}
use Rattle.words.proofs.Refusals.{at_ok, ok_refused, first_ok, by_verdict}
use Rattle.words.proofs.Lists.{upto_mem}
use Rattle.words.proofs.Entries.{first_append, first_snoc}
use Rattle.words.proofs.Rows.{upto_more, upto_split}

pub record Passed (fault place : ℕ → ℕ) (n i : ℕ) : Type 0 where
  pub within : i ≤ n
  pub good : first (λ k. fault k at_place place k) (upto i) ≡ ok tt

module _ {fault place : ℕ → ℕ} {n : ℕ} where
  pub passed_start : Passed fault place n 0
  unfolding upto first
  passed_start = record { within = omega arith; good = refl }

  pub passed_next : {i : ℕ} → Passed fault place n i → i < n → fault (i + 1) ≡ 0 → Passed fault place n (i + 1)
  passed_next {i} w h e =
      record {
        within = omega arith;
        good = rw (upto_more i) (first_snoc (λ k. fault k at_place place k) (upto i) (i + 1) w.good ∙ rw e);
      }

  pub passed_refused : {i m q : ℕ} → Passed fault place n i → i < n → fault (i + 1) at_place place (i + 1) ≡ refused m q → first (λ k. fault k at_place place k) (upto n) ≡ refused m q
  unfolding first
  passed_refused {i} w h e =
      let s = upto_split i n h in rw (s.is, first_append (λ k. fault k at_place place k) (upto i) ((i + 1) ∷ s.rest), w.good, e)

  pub passed_end : {i : ℕ} → Passed fault place n i → n ≤ i → first (λ k. fault k at_place place k) (upto n) ≡ ok tt
  passed_end {i} w h = let e : i ≡ n = omega (arith, w.within) in rw e at w.good

-- the first number that is refused
pub record Earliest (fault place : ℕ → ℕ) (n m p : ℕ) : Type 0 where
  pub number : ℕ
  pub some : 0 < number
  pub most : number ≤ n
  pub before : (k : ℕ) → 0 < k → k < number → fault k ≡ 0
  pub refused : fault number at_place place number ≡ refused m p

pub first_earlier : (fault place : ℕ → ℕ) (n m p : ℕ) → first (λ k. fault k at_place place k) (upto n) ≡ refused m p → Earliest fault place n m p
unfolding upto first
first_earlier fault place zero m p e = ok_refused (sym e)
first_earlier fault place (suc n) m p e =
    let below = first_earlier fault place n m p in
    let j = first_append (λ k. fault k at_place place k) (upto n) (suc n ∷ []) in
    by_verdict (first (λ k. fault k at_place place k) (upto n))
    (λ x q g.
    let w = below (g ∙ (rw (j, g) at e)) in
    record { number = w.number; some = w.some; most = (let l = w.most in omega arith); before = w.before; refused = w.refused })
    (λ g.
    record {
      number = suc n;
      some = omega arith;
      most = omega arith;
      before = λ k h l. at_ok _ _ (first_ok (λ k. fault k at_place place k) (upto n) g (upto_mem n k h (omega arith)));
      refused = sym (first_snoc (λ k. fault k at_place place k) (upto n) (suc n) g) ∙ e;
    })
