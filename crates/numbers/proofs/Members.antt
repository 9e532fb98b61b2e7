-- Whether a number is one of a list. Assumes nothing.
--
--   contains_has    what `contains` answers
use Prim.Native.Nat.{ℕ}
use mathlib.Core.Path.{◌≡◌, refl, sym, ap₂}
use mathlib.Core.Bool.{◌||◌}
use mathlib.Core.List.{List, [], ◌∷◌}
use Rattle.std.specs.List.{list_any}
use Rattle.std.proofs.Math.Dec.{eqb}
use Rattle.words.proofs.Tests.{bool_same}
use borrow.Author.Tests.{eq-eqb, eqb-true}
use Rattle.words.specs.Lists.{some, has}

pub eqb_swap : (a b : ℕ) → eqb a b ≡ eqb b a
eqb_swap a b = bool_same (eqb a b) (eqb b a) (λ t. eq-eqb b a (sym (eqb-true a b t))) (λ t. eq-eqb a b (sym (eqb-true b a t)))

pub contains_has : (n : ℕ) (s : List ℕ) → list_any (λ m. eqb m n) s ≡ has n s
unfolding some
contains_has n [] = refl
contains_has n (m ∷ s) = ap₂ (λ x y. x || y) (eqb_swap m n) (contains_has n s)
