-- Digits read front to back. Assumes nothing.
--
--   Read s n i                  n is the number of the digits before i, and the answer for s follows from it and what stands from i on
--   read_start, read_digit      nothing is read; one digit more
--   read_other                  a byte that is no digit
--   read_nothing, read_end      there is no digit; all is read
use Rattle.std.specs.Prelude.{None, Some}
use Prim.Native.Nat.{ℕ, ◌+◌, ◌≤◌, ◌<◌}
use mathlib.Core.Path.{◌≡◌, refl, ◌∙◌}
use mathlib.Core.Bool.{true, false, not}
use mathlib.Core.List.{List}
use native.Mathlib.Omega.{arith}
use native.Mathlib.Numerals.{add-one}
use borrow.Author.Tests.{le-leb, eq-eqb, ne_eqb}
use lib.ListN.{length, get_or, drop}
use lib.Seq.{drop-cons, drop-length}
use Rattle.words.specs.Lists.{some}
use Rattle.program_input.specs.Decimal.{is_digit, with_digit, number_from, number_in}

pub record Read (s : List ℕ) (n i : ℕ) : Type 0 where
  pub inside : i ≤ length s
  pub others : some (λ c. not (is_digit c)) s ≡ some (λ c. not (is_digit c)) (drop i s)
  pub number : number_from 0 s ≡ number_from n (drop i s)

pub read_start : (s : List ℕ) → Read s 0 0
read_start s = record { inside = omega arith; others = refl; number = refl }

module _ (s : List ℕ) (n i : ℕ) (w : Read s n i) (h : i < length s) where
  pub read_digit : 48 ≤ get_or s i 0 → get_or s i 0 ≤ 57 → Read s (with_digit n (get_or s i 0)) (i + 1)
  unfolding some number_from
  read_digit l m = record {
    inside = omega arith;
    others = w.others ∙ rw (drop-cons s i 0 h, le-leb 48 (get_or s i 0) l, le-leb (get_or s i 0) 57 m, add-one i);
    number = w.number ∙ rw (drop-cons s i 0 h, add-one i);
  }

  other : is_digit (get_or s i 0) ≡ false → some (λ c. not (is_digit c)) s ≡ true
  unfolding some
  other e = w.others ∙ rw (drop-cons s i 0 h, e)

  pub read_other : is_digit (get_or s i 0) ≡ false → number_in s ≡ None
  unfolding number_in
  read_other e = rw (ne_eqb (length s) 0 (λ z. absurd (omega arith)), other e)

pub read_nothing : (s : List ℕ) → length s ≡ 0 → number_in s ≡ None
unfolding number_in
read_nothing s e = rw (eq-eqb (length s) 0 e)

module _ (s : List ℕ) (n i : ℕ) (w : Read s n i) (e : i ≡ length s) where
  none : some (λ c. not (is_digit c)) s ≡ false
  unfolding some
  none = w.others ∙ rw (e, drop-length s)

  all : number_from 0 s ≡ n
  unfolding number_from
  all = w.number ∙ rw (e, drop-length s)

  pub read_end : (length s ≡ 0 → ⊥) → number_in s ≡ Some n
  unfolding number_in
  read_end f = rw (ne_eqb (length s) 0 f, none, all)
