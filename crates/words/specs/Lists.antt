-- What is taken from lists. Elements are numbered from 1.
--
--   keep t xs, some t xs  the elements that pass a test; whether one does
--   has n ns              whether the number n is among ns
--   x ∈ xs                x is an element of xs
--   each f xs             the lists f x joined, in order
--   nth xs n d            the nth element from 1, or d where there is none
--   upto n                1, 2, .. n
--   last_that t xs        the number, from 1, of the last element that passes; 0 if none does
--   sum ns                the sum of numbers
use Rattle.std.specs.Prelude.{ℕ, zero, suc, ◌+◌, Bool, false, ◌||◌, get_or}
use mathlib.Core.List.{List, [], ◌∷◌, ◌++◌, Memᴰ}
use Rattle.words.specs.Tests.{◌≡?◌, pick, ◌when◌else◌}

module _ {A : Type 0} where
  unfoldable pub keep : (A → Bool) → List A → List A
  keep t [] = []
  keep t (x ∷ xs) = pick (t x) (x ∷ keep t xs) (keep t xs)

  unfoldable pub some : (A → Bool) → List A → Bool
  some t [] = false
  some t (x ∷ xs) = t x || some t xs

  unfoldable pub nth : List A → ℕ → A → A
  nth xs zero d = d
  nth xs (suc n) d = get_or xs n d

  unfoldable pub last_that : (A → Bool) → List A → ℕ
  last_that t [] = 0
  last_that t (x ∷ xs) = let n = last_that t xs in (1 when t x else 0) when n ≡? 0 else suc n

infix 40 ◌∈◌
abbrev pub ◌∈◌ : {A : Type 0} → A → List A → Type 0
x ∈ xs = Memᴰ x xs

abbrev pub has : ℕ → List ℕ → Bool
has n ns = some (λ m. n ≡? m) ns

unfoldable pub each : {A B : Type 0} → (A → List B) → List A → List B
each f [] = []
each f (x ∷ xs) = f x ++ each f xs

unfoldable pub upto : ℕ → List ℕ
upto zero = []
upto (suc n) = upto n ++ (suc n ∷ [])

unfoldable pub sum : List ℕ → ℕ
sum [] = 0
sum (n ∷ ns) = n + sum ns
