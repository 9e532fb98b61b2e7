-- The test `is_streamable` and the facts `Streamable` say the same. Assumes nothing.
--
--   ends_tail, ends_from, ends_to    `ends_in_zero`: of what follows a byte; and as a fact, both ways
--   forbidden_from, forbidden_to     `holds_forbidden` as a fact, both ways
--   streamable_from, streamable_to   `is_streamable` and Streamable, both ways
--   no_length                        a list of length 0 is empty
use Prim.Native.Nat.{ℕ, zero, suc, ◌≤◌}
use mathlib.Core.Path.{◌≡◌, refl, ap, ◌∙◌}
use mathlib.Core.Bool.{true, false}
use mathlib.Core.List.{List, [], ◌∷◌, ◌++◌}
use native.Mathlib.Omega.{arith}
use borrow.Author.Tests.{ne_eqb, eqb-false}
use lib.ListN.{length}
use Rattle.words.specs.Tests.{◌≡?◌}
use Rattle.words.proofs.Tests.{by_bool, true_false, not-true, and_both}
use Rattle.byte_streams.specs.Grammar.{Streamable}
use Rattle.byte_streams.proofs.Forbidden.{forbidden_found, three_from}
use Rattle.byte_streams.specs.Writing.{ends_in_zero, is_forbidden, holds_forbidden, is_streamable}

-- the end
ends_zero : (a : List ℕ) → ends_in_zero (a ++ (0 ∷ [])) ≡ true
unfolding ends_in_zero
ends_zero [] = refl
ends_zero (x ∷ []) = refl
ends_zero (x ∷ y ∷ a) = ends_zero (y ∷ a)

pub ends_tail : (x y : ℕ) (u : List ℕ) → ends_in_zero (x ∷ y ∷ u) ≡ ends_in_zero (y ∷ u)
unfolding ends_in_zero
ends_tail x y u = refl

pub ends_from : (u a : List ℕ) → ends_in_zero u ≡ false → u ≡ a ++ (0 ∷ []) → ⊥
ends_from u a f e = true_false (ends_in_zero u) (ap ends_in_zero e ∙ ends_zero a) f

pub ends_to : (u : List ℕ) → ((a : List ℕ) → u ≡ a ++ (0 ∷ []) → ⊥) → ends_in_zero u ≡ false
unfolding ends_in_zero
ends_to [] h = refl
ends_to (zero ∷ []) h = absurd (h [] refl)
ends_to (suc x ∷ []) h = refl
ends_to (x ∷ y ∷ u) h = ends_to (y ∷ u) (λ a e. h (x ∷ a) (ap (λ l. x ∷ l) e))

-- what it holds
pub forbidden_from : (u : List ℕ) → holds_forbidden u ≡ false → (a b : List ℕ) (x : ℕ) → u ≡ a ++ (0 ∷ 0 ∷ x ∷ b) → x ≤ 2 → ⊥
forbidden_from u f a b x e h = true_false (holds_forbidden u) (ap holds_forbidden e ∙ forbidden_found a b x h) f

pub forbidden_to : (u : List ℕ) → ((a b : List ℕ) (x : ℕ) → u ≡ a ++ (0 ∷ 0 ∷ x ∷ b) → x ≤ 2 → ⊥) → holds_forbidden u ≡ false
unfolding holds_forbidden
forbidden_to [] h = refl
forbidden_to (x ∷ []) h = refl
forbidden_to (x ∷ y ∷ []) h = refl
forbidden_to (x ∷ y ∷ z ∷ u) h =
    let below = forbidden_to (y ∷ z ∷ u) (λ a b w e k. h (x ∷ a) b w (ap (λ l. x ∷ l) e) k) in
    by_bool (is_forbidden x y z)
    (λ t. let w = three_from x y z t in absurd (h [] u z (rw (w.0, w.1)) w.2))
    (λ t. rw t below)

-- both
pub no_length : (u : List ℕ) → length u ≡ 0 → u ≡ []
no_length [] e = refl
no_length (x ∷ u) e = absurd (omega arith)

pub streamable_from : (u : List ℕ) → is_streamable u ≡ true → Streamable u
unfolding is_streamable
streamable_from u e =
    let a = and_both _ _ e in
    let b = and_both _ _ a.1 in
    record {
      not_empty = λ z. eqb-false _ _ (not-true (length u ≡? 0) a.0) (ap length z);
      no_zero_at_end = λ w g. ends_from u w (not-true (ends_in_zero u) b.0) g;
      no_forbidden = forbidden_from u (not-true (holds_forbidden u) b.1);
    }

pub streamable_to : (u : List ℕ) → Streamable u → is_streamable u ≡ true
unfolding is_streamable
streamable_to u h = rw (ne_eqb (length u) 0 (λ z. h.not_empty (no_length u z)), ends_to u h.no_zero_at_end, forbidden_to u h.no_forbidden)
