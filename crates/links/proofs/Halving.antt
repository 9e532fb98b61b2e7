-- The search by halving, for any test, and binary digits. Assumes nothing.
--
--   digits_least, digits_exactly     binary_digits n is the least d with n below 2 to the power d
--   middle_among, middle_earlier     the middle is one of the numbers left; as many stand before it as after it, or one fewer
--   none_left                        when none is left
--   those_after, those_before        one round, by whether the middle passes
--   halving_same                     tests that agree on the numbers left
--   Ends, ends                       what is found lies from low up to high; it passes unless it is low; the next does not unless it is high
--   last_found                       in a list where every element before one that passes does too: the last that passes
--   rounds_at_most                   the rounds are at most the binary digits of how many numbers there are
--   rounds_at_least                  and at least those of one number more, less one
--   rounds_reached                   where every number passes they are as many as the binary digits
use Prim.Native.Nat.{ℕ, zero, suc, ◌+◌, ◌-◌, ◌^◌, ◌≤◌, ◌<◌}
use mathlib.Core.Path.{◌≡◌, refl, sym, ◌∙◌, subst}
use mathlib.Core.Bool.{Bool, true, false}
use mathlib.Core.List.{List}
use mathlib.Core.Logic.{◌⊎◌, inl, inr, ◌↔◌}
use native.Mathlib.Omega.{arith}
use borrow.Author.Tests.{lt-ltb, le-ltb, ltb-true, ltb-false, eq-eqb, ne_eqb, eqb-true, eqb-false}
use lib.Dec.{ltb, eqb}
use lib.ListN.{length}
use Rattle.words.specs.Tests.{pick}
use Rattle.words.specs.Lists.{nth, last_that}
use Rattle.words.proofs.Tests.{by_bool, by_number, true_false}
use Rattle.links.specs.Halving.{middle, ended, one_round_more, halving_in, halving, binary_digits}
use Rattle.links.proofs.Words.{last_most, last_passes, last_later}

-- binary digits
digits_more : (n : ℕ) → suc n ≡ 2 ^ binary_digits n → binary_digits (suc n) ≡ suc (binary_digits n)
unfolding binary_digits
digits_more n e = rw (eq-eqb (suc n) (2 ^ binary_digits n) e)

digits_same : (n : ℕ) → (suc n ≡ 2 ^ binary_digits n → ⊥) → binary_digits (suc n) ≡ binary_digits n
unfolding binary_digits
digits_same n h = rw (ne_eqb (suc n) (2 ^ binary_digits n) h)

no_digits : binary_digits 0 ≡ 0
unfolding binary_digits
no_digits = refl

digits_above : (n : ℕ) → n < 2 ^ binary_digits n
digits_above zero = rw no_digits (omega arith)
digits_above (suc n) =
    let below = digits_above n in
    by_bool (eqb (suc n) (2 ^ binary_digits n))
    (λ q. let e = eqb-true (suc n) (2 ^ binary_digits n) q in rw (digits_more n e) (omega arith))
    (λ q. let e = eqb-false (suc n) (2 ^ binary_digits n) q in rw (digits_same n e) (omega arith))

digits_below : (n d : ℕ) → d < binary_digits n → 2 ^ d ≤ n
digits_below zero d h = let z = no_digits in absurd (omega arith)
digits_below (suc n) d h =
    let below = digits_below n d in
    by_bool (eqb (suc n) (2 ^ binary_digits n))
    (λ q.
    let e = eqb-true (suc n) (2 ^ binary_digits n) q in
    let l = digits_more n e in
    by_bool (eqb d (binary_digits n))
    (λ r. let f = eqb-true d (binary_digits n) r in rw f (omega arith))
    (λ r. let f = eqb-false d (binary_digits n) r in let g = below (omega arith) in omega arith))
    (λ q. let l = digits_same n (eqb-false (suc n) (2 ^ binary_digits n) q) in let g = below (omega arith) in omega arith)

pub digits_least : (n d : ℕ) → n < 2 ^ d → binary_digits n ≤ d
digits_least n d h = by_bool (ltb d (binary_digits n))
    (λ q. let g = digits_below n d (ltb-true d (binary_digits n) q) in absurd (omega arith))
    (λ q. ltb-false d (binary_digits n) q)

pub digits_exactly : (n d : ℕ) → (binary_digits n ≡ d) ↔ ((n < 2 ^ d) × ((e : ℕ) → e < d → 2 ^ e ≤ n))
digits_exactly n d = (
  (λ q. (subst (λ (k : ℕ). n < 2 ^ k) q (digits_above n), λ e h. digits_below n e (omega arith))),
  (λ w.
      let most = digits_least n d w.0 in
      by_bool (ltb (binary_digits n) d)
      (λ q. let g = w.1 (binary_digits n) (ltb-true (binary_digits n) d q) in let h = digits_above n in absurd (omega arith))
      (λ q. let least = ltb-false (binary_digits n) d q in omega arith)),
)

power_some : (d : ℕ) → 0 < 2 ^ d
power_some zero = omega arith
power_some (suc d) = let below = power_some d in omega arith

-- the middle is one of the numbers left
pub middle_among : (low high : ℕ) → low < high → (low < middle low high) × (middle low high ≤ high)
middle_among low high h = (omega arith, omega arith)

pub middle_earlier : (low high : ℕ) → low < high → (middle low high - (low + 1) ≡ high - middle low high) ⊎ (middle low high - (low + 1) + 1 ≡ high - middle low high)
middle_earlier low high h = by_bool (eqb (middle low high - (low + 1)) (high - middle low high))
    (λ q. inl (eqb-true _ _ q))
    (λ q. let e = eqb-false (middle low high - (low + 1)) (high - middle low high) q in inr (omega arith))

module _ (passes : ℕ → Bool) where
  none_left_in : (n low high : ℕ) → high ≤ low → halving_in passes n low high ≡ ended low
  unfolding halving_in
  none_left_in zero low high h = refl
  none_left_in (suc n) low high h = rw (le-ltb low high h)

  pub none_left : (low high : ℕ) → high ≤ low → halving passes low high ≡ ended low
  none_left low high h = none_left_in (high - low) low high h

  -- any number of rounds that suffices is as good
  enough : (n k low high : ℕ) → high - low ≤ n → high - low ≤ k → halving_in passes n low high ≡ halving_in passes k low high
  unfolding halving_in
  enough zero k low high h g = sym (none_left_in k low high (omega arith))
  enough (suc n) zero low high h g = none_left_in (suc n) low high (omega arith)
  enough (suc n) (suc k) low high h g =
      by_bool (ltb low high)
      (λ q.
      let w = middle_among low high (ltb-true low high q) in
      rw (enough n k (middle low high) high (omega arith) (omega arith), enough n k low (middle low high - 1) (omega arith) (omega arith)))
      (λ q. rw q)

  round : (low high : ℕ) → low < high → halving passes low high ≡ one_round_more (pick (passes (middle low high)) (halving passes (middle low high) high) (halving passes low (middle low high - 1)))
  unfolding halving_in
  round low high h =
      let w = middle_among low high h in
      by_number (high - low)
      (λ z. absurd (omega arith))
      (λ n z.
      rw (z, lt-ltb low high h, enough n (high - middle low high) (middle low high) high (omega arith) (omega arith), enough n (middle low high - 1 - low) low (middle low high - 1) (omega arith) (omega arith)))

  module _ (low high : ℕ) (some : low < high) where
    pub those_after : passes (middle low high) ≡ true → halving passes low high ≡ one_round_more (halving passes (middle low high) high)
    those_after e = round low high some ∙ rw e

    pub those_before : passes (middle low high) ≡ false → halving passes low high ≡ one_round_more (halving passes low (middle low high - 1))
    those_before e = round low high some ∙ rw e

  -- tests that agree on the numbers left
  halving_same_in : (other : ℕ → Bool) (n low high : ℕ) → ((i : ℕ) → low < i → i ≤ high → passes i ≡ other i) → halving_in passes n low high ≡ halving_in other n low high
  unfolding halving_in
  halving_same_in other zero low high e = refl
  halving_same_in other (suc n) low high e = by_bool (ltb low high)
      (λ q.
      let m = middle low high in
      let w = middle_among low high (ltb-true low high q) in
      let a = halving_same_in other n m high (λ i u v. e i (omega arith) v) in
      let b = halving_same_in other n low (m - 1) (λ i u v. e i u (omega arith)) in
      rw (q, e m w.0 w.1, a, b))
      (λ q. rw q)

  pub halving_same : (other : ℕ → Bool) (low high : ℕ) → ((i : ℕ) → low < i → i ≤ high → passes i ≡ other i) → halving passes low high ≡ halving other low high
  halving_same other low high = halving_same_in other (high - low) low high

  -- What is found lies between. It passes unless it is low, and the number after it does not unless it is high.
  pub record Ends (low high b : ℕ) : Type 0 where
    pub from : low ≤ b
    pub most : b ≤ high
    pub passed : low < b → passes b ≡ true
    pub next : b < high → passes (b + 1) ≡ false

  module _ (low high : ℕ) where
    ends_none : low ≡ high → Ends low high low
    ends_none e = record { from = omega arith; most = omega arith; passed = λ u. absurd (omega arith); next = λ u. absurd (omega arith) }

    ends_after : (m b : ℕ) → low < m → passes m ≡ true → Ends m high b → Ends low high b
    ends_after m b h t e = record {
      from = let a = e.from in omega arith;
      most = e.most;
      passed = λ u. by_bool (eqb b m)
          (λ q. rw (eqb-true b m q) t)
          (λ q. let a = e.from in let c = eqb-false b m q in e.passed (omega arith));
      next = e.next;
    }

    ends_before : (m b : ℕ) → low < m → m ≤ high → passes m ≡ false → Ends low (m - 1) b → Ends low high b
    ends_before m b h l t e = record {
      from = e.from;
      most = let a = e.most in omega arith;
      passed = e.passed;
      next = λ u. by_bool (eqb (b + 1) m)
          (λ q. rw (eqb-true (b + 1) m q) t)
          (λ q. let a = e.most in let c = eqb-false (b + 1) m q in e.next (omega arith));
    }

  ends_within : (n low high : ℕ) → high - low ≤ n → low ≤ high → Ends low high (halving passes low high).found
  ends_within zero low high h l = rw (none_left low high (omega arith)) (ends_none low high (omega arith))
  ends_within (suc n) low high h l = by_bool (ltb low high)
      (λ q.
      let o = ltb-true low high q in
      let m = middle low high in
      let w = middle_among low high o in
      by_bool (passes m)
      (λ t. rw (those_after low high o t) (ends_after low high m _ w.0 t (ends_within n m high (omega arith) w.1)))
      (λ t. rw (those_before low high o t) (ends_before low high m _ w.0 w.1 t (ends_within n low (m - 1) (omega arith) (omega arith)))))
      (λ q. let o = ltb-false low high q in rw (none_left low high o) (ends_none low high (omega arith)))

  pub ends : (n : ℕ) → Ends 0 n (halving passes 0 n).found
  ends n = ends_within n 0 n (omega arith) (omega arith)

  -- rounds, by powers of two
  rounds_most : (d low high : ℕ) → high - low < 2 ^ d → (halving passes low high).rounds ≤ d
  rounds_most zero low high h = rw (none_left low high (omega arith)) (omega arith)
  rounds_most (suc d) low high h = by_bool (ltb low high)
      (λ q.
      let o = ltb-true low high q in
      let m = middle low high in
      by_bool (passes m)
      (λ t. let below = rounds_most d m high (omega arith) in rw (those_after low high o t) (omega arith))
      (λ t. let below = rounds_most d low (m - 1) (omega arith) in rw (those_before low high o t) (omega arith)))
      (λ q. rw (none_left low high (ltb-false low high q)) (omega arith))

  rounds_least : (d low high : ℕ) → 2 ^ d ≤ high - low + 1 → d ≤ (halving passes low high).rounds
  rounds_least zero low high h = omega arith
  rounds_least (suc d) low high h =
      let p = power_some d in
      let o : low < high = omega arith in
      let m = middle low high in
      by_bool (passes m)
      (λ t. let below = rounds_least d m high (omega arith) in rw (those_after low high o t) (omega arith))
      (λ t. let below = rounds_least d low (m - 1) (omega arith) in rw (those_before low high o t) (omega arith))

  -- where all pass, those after the middle are left in every round
  rounds_full : (d low high : ℕ) → ((i : ℕ) → low < i → i ≤ high → passes i ≡ true) → 2 ^ d ≤ high - low → d < (halving passes low high).rounds
  rounds_full zero low high all h =
      let o : low < high = omega arith in
      let w = middle_among low high o in
      rw (those_after low high o (all (middle low high) w.0 w.1)) (omega arith)
  rounds_full (suc d) low high all h =
      let p = power_some d in
      let o : low < high = omega arith in
      let m = middle low high in
      let w = middle_among low high o in
      let below = rounds_full d m high (λ i u v. all i (omega arith) v) (omega arith) in
      rw (those_after low high o (all m w.0 w.1)) (omega arith)

  module _ (n : ℕ) where
    pub rounds_at_most : (halving passes 0 n).rounds ≤ binary_digits n
    rounds_at_most = let h = digits_above n in rounds_most (binary_digits n) 0 n (omega arith)

    pub rounds_at_least : binary_digits (n + 1) ≤ (halving passes 0 n).rounds + 1
    rounds_at_least = by_number (binary_digits (n + 1))
        (λ z. omega arith)
        (λ d z. let a = rounds_least d 0 n (let h = digits_below (n + 1) d (omega arith) in omega arith) in omega arith)

    pub rounds_reached : ((i : ℕ) → 0 < i → i ≤ n → passes i ≡ true) → (halving passes 0 n).rounds ≡ binary_digits n
    rounds_reached all =
        let most = rounds_at_most in
        by_number (binary_digits n)
        (λ z. omega arith)
        (λ d z. let a = rounds_full d 0 n all (let h = digits_below n d (omega arith) in omega arith) in omega arith)

-- in a list where every element before one that passes does too, what is found is the last that passes
module _
    {A : Type 0} (t : A → Bool) (xs : List A) (d : A)
    (down : (i j : ℕ) → 0 < i → i < j → j ≤ length xs → t (nth xs j d) ≡ true → t (nth xs i d) ≡ true)
  where
    abbrev b : ℕ
    b = (halving (λ i. t (nth xs i d)) 0 (length xs)).found

    -- the one after it fails, so every later one does
    later_fails : (i : ℕ) → b < i → i ≤ length xs → t (nth xs i d) ≡ false
    later_fails i h l =
        let e : t (nth xs (b + 1) d) ≡ false = (ends (λ i. t (nth xs i d)) (length xs)).next (omega arith) in
        by_bool (eqb i (b + 1))
        (λ q. rw (eqb-true i (b + 1) q) e)
        (λ q.
        let c = eqb-false i (b + 1) q in
        by_bool (t (nth xs i d))
        (λ p. true_false _ (down (b + 1) i (omega arith) (omega arith) l p) e)
        (λ p. p))

    pub last_found : b ≡ last_that t xs
    last_found =
        let e = ends (λ i. t (nth xs i d)) (length xs) in
        let m = last_most t xs in
        by_bool (ltb b (last_that t xs))
        (λ q. let h = ltb-true b (last_that t xs) q in true_false _ (last_passes t xs d (omega arith)) (later_fails (last_that t xs) h m))
        (λ q.
        let h = ltb-false b (last_that t xs) q in
        by_bool (eqb b (last_that t xs))
        (λ r. eqb-true b (last_that t xs) r)
        (λ r. let c = eqb-false b (last_that t xs) r in true_false _ (e.passed (omega arith)) (last_later t xs d b (omega arith) e.most)))
