-- Tests of numbers, and choice by a test.
--
--   a <? b, a ≤? b, a ≡? b  tests of numbers
--   pick t a b              a if the test t holds, else b
--   n when t else m         the same, on numbers
--   out_of count n          whether n is not one of the numbers 1 to count: 0, or past the last
--   all ts                  whether every test of a list holds
use Rattle.std.specs.Prelude.{ℕ, Bool, true, false, ◌&&◌, ◌||◌, List, [], ◌∷◌, ltb, leb, eqb}

infix 50 ◌<?◌ ◌≤?◌ ◌≡?◌
infixr 10 ◌when◌else◌
abbrev pub ◌<?◌ : ℕ → ℕ → Bool
a <? b = ltb a b

abbrev pub ◌≤?◌ : ℕ → ℕ → Bool
a ≤? b = leb a b

abbrev pub ◌≡?◌ : ℕ → ℕ → Bool
a ≡? b = eqb a b

abbrev pub pick : {A : Type 0} → Bool → A → A → A
pick true a b = a
pick false a b = b

abbrev pub ◌when◌else◌ : ℕ → Bool → ℕ → ℕ
n when t else m = pick t n m

abbrev pub out_of : ℕ → ℕ → Bool
out_of count n = n ≡? 0 || count <? n

unfoldable pub all : List Bool → Bool
all [] = true
all (t ∷ ts) = t && all ts
