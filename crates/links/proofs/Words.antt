-- Laws of the nth element and of the last that passes, which belong to words. Assumes nothing.
--
--   mem_nth, rising_nth        an element has a number; elements of a rising list, by their numbers
--   last_most                  `last_that` is the number of an element, or 0
--   last_passes, last_later    it passes, and no later one does
--   last_count                 of the numbers up to n: at most n
--   last_down                  where a test holds up to a number: just there
use Prim.Native.Nat.{ℕ, zero, suc, ◌≤◌, ◌<◌}
use mathlib.Core.Path.{◌≡◌, refl, sym, ◌∙◌}
use mathlib.Core.List.Memᴰ
use mathlib.Core.List.{List, [], ◌∷◌, Memᴰ}
use mathlib.Core.Logic.{⊎_elim}
use mathlib.Core.Bool.{Bool, true, false}
use native.Mathlib.Omega.{arith}
use native.Mathlib.Numerals.{add-one}
use borrow.Author.Tests.{leb-true, leb-false}
use lib.Dec.{leb, eqb, eqb-suc-zero}
use lib.ListN.{length, get_or}
use Rattle.words.specs.Tests.{◌≤?◌}
use Rattle.words.specs.Lists.{nth, upto, last_that}
use Rattle.words.proofs.Tests.{by_bool, by_number, bool_same, true_false}
use Rattle.words.proofs.Lists.{nth_mem, Rising}
use Rattle.words.proofs.Rows.{upto_length, upto_at}

module _ {A : Type 0} where
  get_d_step : (a : A) (xs : List A) (i : ℕ) (d : A) → 0 < i → get_or (a ∷ xs) i d ≡ nth xs i d
  unfolding nth
  get_d_step a xs zero d h = absurd (omega arith)
  get_d_step a xs (suc i) d h = refl

  pub mem_nth : (xs : List A) (x d : A) → Memᴰ x xs → (i : ℕ) × ((0 < i) × (i ≤ length xs)) × (nth xs i d ≡ x)
  unfolding nth
  mem_nth [] x d m = absurd (Memᴰ.not-nil m)
  mem_nth (a ∷ xs) x d m =
      let below = mem_nth xs x d in
      ⊎_elim
      (λ e. (1, (omega arith, omega arith), sym e))
      (λ k. let w = below k in (suc w.0, (omega arith, omega arith), get_d_step a xs w.0 d w.1.0 ∙ w.2))
      (Memᴰ.cases_cons m)

  pub rising_nth : (R : A → A → Type 0) (xs : List A) → Rising R xs → (i j : ℕ) (d : A) → 0 < i → i < j → j ≤ length xs → R (nth xs i d) (nth xs j d)
  unfolding nth
  rising_nth R xs r zero j d h l k = absurd (omega arith)
  rising_nth R xs r (suc i) zero d h l k = absurd (omega arith)
  rising_nth R [] r (suc i) (suc j) d h l k = absurd (omega arith)
  rising_nth R (x ∷ xs) r (suc i) (suc zero) d h l k = absurd (omega arith)
  rising_nth R (x ∷ xs) r (suc zero) (suc (suc j)) d h l k = r.0 (nth xs (suc j) d) (nth_mem xs (suc j) d (omega arith) (omega arith))
  rising_nth R (x ∷ xs) r (suc (suc i)) (suc (suc j)) d h l k = rising_nth R xs r.1 (suc i) (suc j) d (omega arith) (omega arith) (omega arith)

-- the last that passes
module _ {A : Type 0} (t : A → Bool) where
  pub last_most : (xs : List A) → last_that t xs ≤ length xs
  unfolding last_that
  last_most [] = omega arith
  last_most (x ∷ xs) =
      let h = last_most xs in
      by_bool (eqb (last_that t xs) 0)
      (λ q. rw q (by_bool (t x) (λ r. rw r (omega arith)) (λ r. rw r (omega arith))))
      (λ q. rw q (omega arith))

  pub last_passes : (xs : List A) (d : A) → 0 < last_that t xs → t (nth xs (last_that t xs) d) ≡ true
  unfolding last_that nth
  last_passes [] d h = absurd (omega arith)
  last_passes (x ∷ xs) d h =
      let below = last_passes xs d in
      by_number (last_that t xs)
      (λ q. by_bool (t x)
      (λ r. rw (q, r) (r))
      (λ r. let z : 0 < 0 = rw (q, r) at h in absurd (omega arith)))
      (λ k q. rw (q, eqb-suc-zero k) (rw q at (below (rw q (omega arith)))))

  pub last_later : (xs : List A) (d : A) (i : ℕ) → last_that t xs < i → i ≤ length xs → t (nth xs i d) ≡ false
  unfolding last_that nth
  last_later [] d i h l = absurd (omega arith)
  last_later (x ∷ xs) d zero h l = absurd (omega arith)
  last_later (x ∷ xs) d (suc zero) h l =
      by_number (last_that t xs)
      (λ q. by_bool (t x)
      (λ r. let z : 1 < 1 = rw (q, r) at h in absurd (omega arith))
      (λ r. r))
      (λ k q. let z : suc (suc k) < 1 = rw (q, eqb-suc-zero k) at h in absurd (omega arith))
  last_later (x ∷ xs) d (suc (suc i)) h l =
      let below = last_later xs d (suc i) in
      by_number (last_that t xs)
      (λ q. below (rw q (omega arith)) (omega arith))
      (λ k q. let z : suc (suc k) < suc (suc i) = rw (q, eqb-suc-zero k) at h in below (rw q (omega arith)) (omega arith))

-- of the numbers up to n
count_nth : (n m : ℕ) → 0 < m → m ≤ n → nth (upto n) m 0 ≡ m
unfolding nth
count_nth n zero h l = absurd (omega arith)
count_nth n (suc m) h l = upto_at n m (omega arith) ∙ add-one m

pub last_count : (t : ℕ → Bool) (n : ℕ) → last_that t (upto n) ≤ n
last_count t n = let h = last_most t (upto n) in let l = upto_length n in omega arith

-- a test that holds of no number after one of which it does not hold
pub last_down : (t : ℕ → Bool) (n : ℕ) → ((i j : ℕ) → 0 < i → i ≤ j → j ≤ n → t j ≡ true → t i ≡ true) → (m : ℕ) → 0 < m → m ≤ n → t m ≡ (m ≤? last_that t (upto n))
last_down t n down m h l =
    let b = last_that t (upto n) in
    let len = upto_length n in
    let most = last_count t n in
    bool_same (t m) (leb m b)
    (λ p. by_bool (leb m b)
    (λ q. q)
    (λ q. let u = leb-false m b q in true_false _ p (rw (count_nth n m h l) at (last_later t (upto n) 0 m u (omega arith)))))
    (λ p. let u = leb-true m b p in
    down m b h u most (rw (count_nth n b (omega arith) most) at (last_passes t (upto n) 0 (omega arith))))
