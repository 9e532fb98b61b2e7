-- `is_forbidden` and `holds_forbidden`, three bytes at a time. Assumes nothing.
--
--   or_right         a test or another that holds
--   forbidden_tail   what a list holds, it holds with a byte before it too
--   forbidden_found  three bytes that may not stand in a unit, anywhere in a list
--   three_from       `is_forbidden` as facts
use Prim.Native.Nat.{ℕ, ◌≤◌}
use mathlib.Core.Path.{◌≡◌, refl}
use mathlib.Core.Bool.{Bool, true, false, ◌||◌}
use mathlib.Core.List.{List, [], ◌∷◌, ◌++◌}
use native.Mathlib.Omega.{arith}
use borrow.Author.Tests.{eqb-true, le-leb, leb-true}
use Rattle.words.proofs.Tests.{and_both}
use Rattle.byte_streams.specs.Writing.{is_forbidden, holds_forbidden}

pub or_right : (a b : Bool) → b ≡ true → (a || b) ≡ true
or_right true b e = refl
or_right false b e = e

pub forbidden_tail : (x : ℕ) (u : List ℕ) → holds_forbidden u ≡ true → holds_forbidden (x ∷ u) ≡ true
unfolding holds_forbidden
forbidden_tail x [] e = e
forbidden_tail x (y ∷ []) e = e
forbidden_tail x (y ∷ z ∷ u) e = or_right (is_forbidden x y z) (holds_forbidden (y ∷ z ∷ u)) e

pub forbidden_found : (a b : List ℕ) (x : ℕ) → x ≤ 2 → holds_forbidden (a ++ (0 ∷ 0 ∷ x ∷ b)) ≡ true
forbidden_found [] b x h = unfold holds_forbidden in rw (le-leb x 2 (omega arith))
forbidden_found (y ∷ a) b x h = forbidden_tail y (a ++ (0 ∷ 0 ∷ x ∷ b)) (forbidden_found a b x h)

pub three_from : (x y z : ℕ) → is_forbidden x y z ≡ true → (x ≡ 0) × (y ≡ 0) × (z ≤ 2)
three_from x y z e =
    let a = and_both _ _ e in
    let b = and_both _ _ a.1 in
    (eqb-true x 0 a.0, eqb-true y 0 b.0, leb-true z 2 b.1)
