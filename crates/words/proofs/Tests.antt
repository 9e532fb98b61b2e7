-- Tests from facts, and cases of a computed value. Assumes nothing.
--
--   tests                      `search tests` answers a return whose definition goes by tests, from the branches on the way
--   by_bool, by_number         cases of a computed value, with the equation
--   not-true, not-false        a test that does not hold, and one that does
--   and_both, and_holds        two tests of which both hold, both ways
--   all_first                  tests that all hold: the first, and the others
--   bool_same                  two tests that hold for the same
--   true_false                 no test holds and does not
--   within_count, count_within no number that is out of a count, both ways
use Prim.Native.Nat.{ℕ, zero, suc, ◌≤◌, ◌<◌}
use mathlib.Core.Path.{◌≡◌, refl, sym}
use mathlib.Core.Bool.{Bool, true, false, not, ◌&&◌, ◌||◌}
use mathlib.Core.List.{List, ◌∷◌}
use native.Mathlib.Omega.{arith}
use native.Mathlib.Nat.{pos_of_ne-zero}
use Rattle.words.specs.Tests.{◌<?◌, ◌≡?◌, out_of, all}
use borrow.Author.Tests.{lt-ltb, le-ltb, le-leb, lt-leb, eq-eqb, ne_eqb, eqb-false, ltb-false}

pub ruleset tests = (lt-ltb, le-ltb, le-leb, lt-leb, eq-eqb, ne_eqb)

module _ {G : Type 0} where
  pub by_bool : (b : Bool) → (b ≡ true → G) → (b ≡ false → G) → G
  by_bool true f g = f refl
  by_bool false f g = g refl

  pub by_number : (n : ℕ) → (n ≡ 0 → G) → ((k : ℕ) → n ≡ suc k → G) → G
  by_number zero f g = f refl
  by_number (suc k) f g = g k refl

  pub true_false : (b : Bool) → b ≡ true → b ≡ false → G
  true_false b t f = let z : ◌≡◌ {A = ℕ} 0 1 = cc in absurd (omega arith)

pub not-true : (b : Bool) → not b ≡ true → b ≡ false
not-true true e = true_false false e refl
not-true false e = refl

pub not-false : (b : Bool) → not b ≡ false → b ≡ true
not-false true e = refl
not-false false e = true_false true refl e

pub and_both : (a b : Bool) → (a && b) ≡ true → (a ≡ true) × (b ≡ true)
and_both true b e = (refl, e)
and_both false b e = true_false false e refl

pub and_holds : (a b : Bool) → a ≡ true → b ≡ true → (a && b) ≡ true
and_holds a b e f = rw (e, f)

pub all_first : (t : Bool) (ts : List Bool) → all (t ∷ ts) ≡ true → (t ≡ true) × (all ts ≡ true)
unfolding all
all_first t ts e = and_both t (all ts) e

pub bool_same : (a b : Bool) → (a ≡ true → b ≡ true) → (b ≡ true → a ≡ true) → a ≡ b
bool_same true b f g = sym (f refl)
bool_same false true f g = g refl
bool_same false false f g = refl

or_none : (a b : Bool) → (a || b) ≡ false → (a ≡ false) × (b ≡ false)
or_none true b e = true_false true refl e
or_none false b e = (refl, e)

pub count_within : (count n : ℕ) → out_of count n ≡ false → (0 < n) × (n ≤ count)
count_within count n e =
    let w = or_none (n ≡? 0) (count <? n) e in (pos_of_ne-zero (eqb-false _ _ w.0), ltb-false _ _ w.1)

pub within_count : (count n : ℕ) → 0 < n → n ≤ count → out_of count n ≡ false
within_count count n h l = rw (ne_eqb n 0 (λ z. absurd (omega arith)), le-ltb count n l)
