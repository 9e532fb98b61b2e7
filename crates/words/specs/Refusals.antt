-- Refusals: a number, 0 for none; an answer, which is a refusal at a place or a value; the first refusal of a list of places.
--
--   n if t               the refusal number n if the test holds, else none
--   n or_else m          the refusal number n, or m where n is none
--   first_of fault ps    the first refusal number among those of the places ps
--   Answer A             refused with a number at a place, or ok with a value; a Verdict has no value
--   n at_place p         the refusal number n at the place p, as a verdict
--   v and_then a         the refusal of v, else the answer a
--   first judge ps       the first refusal among those of the places ps
--   passed a             whether an answer is no refusal
--   number_of, place_of  what an answer returns as refusal number and place: both 0 where it is none
--   count_of             what an answer with a count returns as count: 0 where it is a refusal
use Rattle.std.specs.Prelude.{ℕ, zero, suc, List, [], ◌∷◌, Bool, true, false}
use Rattle.words.specs.Tests.{pick}

infix 12 ◌if◌
infix 20 ◌at_place◌
infixr 9 ◌or_else◌ ◌and_then◌
abbrev pub ◌if◌ : ℕ → Bool → ℕ
n if t = pick t n 0

abbrev pub ◌or_else◌ : ℕ → ℕ → ℕ
zero or_else m = m
suc n or_else m = suc n

unfoldable pub first_of : (ℕ → ℕ) → List ℕ → ℕ
first_of fault [] = 0
first_of fault (p ∷ ps) = let rest = first_of fault ps in fault p or_else rest

pub data Answer (A : Type 0) : Type 0 where
  refused : ℕ → ℕ → Answer A
  ok : A → Answer A

abbrev pub Verdict : Type 0
Verdict = Answer (Unit {0})

abbrev pub ◌and_then◌ : {A : Type 0} → Verdict → Answer A → Answer A
refused n p and_then a = refused n p
ok u and_then a = a

abbrev pub ◌at_place◌ : ℕ → ℕ → Verdict
zero at_place p = ok tt
suc n at_place p = refused (suc n) p

unfoldable pub first : (ℕ → Verdict) → List ℕ → Verdict
first judge [] = ok tt
first judge (p ∷ ps) = let rest = first judge ps in judge p and_then rest

module _ {A : Type 0} where
  abbrev pub passed : Answer A → Bool
  passed (refused n p) = false
  passed (ok a) = true

  abbrev pub number_of : Answer A → ℕ
  number_of (refused n p) = n
  number_of (ok a) = 0

  abbrev pub place_of : Answer A → ℕ
  place_of (refused n p) = p
  place_of (ok a) = 0

abbrev pub count_of : Answer ℕ → ℕ
count_of (refused n p) = 0
count_of (ok c) = c
