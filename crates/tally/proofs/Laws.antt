-- Laws of the tally. Assumes nothing.
--
--   tallied_none       the tally of no outcome
--   tallied_default    the tally of three zeros is that
--   one_more_below     below the largest number, one more is one more
--   kept_most          no more outcomes are kept than there are
--   tallied_more       one outcome more raises the tally
--   tallied_sum        the three numbers add to the number of outcomes
--   tallied_most       each of them is at most that
use Prim.Native.Nat.{ℕ, ◌+◌, ◌≤◌, ◌<◌}
use mathlib.Core.Path.{◌≡◌, refl, ap, sym}
use mathlib.Core.Bool.{Bool, true, false}
use mathlib.Core.List.{List, [], ◌∷◌, ◌++◌}
use native.Mathlib.Omega.{arith}
use lib.ListN.{length}
use Rattle.words.specs.Bytes.{largest}
use Rattle.words.specs.Tests.{pick}
use Rattle.words.specs.Lists.{keep}
use Rattle.words.proofs.Tests.{tests}
use Rattle.words.proofs.Rows.{keep_more}
use Rattle.tally.specs.Tallies.{is_passed, is_empty, is_refused, tallied, one_more, raised_by}
use Rattle.tally.specs.declared.Tally.{Tally}
use Rattle.tally.specs.declared.Outcome.{Outcome}
use Rattle.tally.specs.declared.Outcome.TheVariants.{Passed, Empty, Refused}

pub tallied_none : tallied [] ≡ record { passed = 0; empty = 0; refused = 0 }
unfolding tallied keep
tallied_none = refl

three_zeros : (a b c : ℕ) → a ≡ 0 → b ≡ 0 → c ≡ 0 → tallied [] ≡ record { passed = a; empty = b; refused = c }
three_zeros a b c e f g = rw (e, f, g) tallied_none

pub tallied_default : (t : Tally) → (t.passed ≡ 0) × ((t.empty ≡ 0) × (t.refused ≡ 0)) → t ≡ tallied []
tallied_default t e = sym (three_zeros t.passed t.empty t.refused e.0 e.1.0 e.1.1)

pub one_more_below : (n : ℕ) → n < largest → one_more n ≡ n + 1
unfolding one_more
one_more_below n h = search tests

pub kept_most : {A : Type 0} (t : A → Bool) (xs : List A) → length (keep t xs) ≤ length xs
unfolding keep
kept_most t [] = omega arith
kept_most t (x ∷ xs) = go (t x) (kept_most t xs)
  where
    go : (b : Bool) → length (keep t xs) ≤ length xs → length (pick b (x ∷ keep t xs) (keep t xs)) ≤ length (x ∷ xs)
    go true below = omega arith
    go false below = omega arith

abbrev tally_of : ℕ → ℕ → ℕ → Tally
tally_of p e r = record { passed = p; empty = e; refused = r }

pub tallied_more : (os : List Outcome) (o : Outcome) → length os < largest → tallied (os ++ (o ∷ [])) ≡ raised_by o (tallied os)
unfolding tallied
tallied_more os o h = go o
  where
    p : ℕ
    p = length (keep is_passed os)

    e : ℕ
    e = length (keep is_empty os)

    r : ℕ
    r = length (keep is_refused os)

    more : (t : Outcome → Bool) → length (keep t os) + 1 ≡ one_more (length (keep t os))
    more t = let k = kept_most t os in sym (one_more_below (length (keep t os)) (omega arith))

    go : (o : Outcome) → tallied (os ++ (o ∷ [])) ≡ raised_by o (tallied os)
    go Passed = rw (keep_more is_passed os Passed, keep_more is_empty os Passed, keep_more is_refused os Passed) (ap (λ (n : ℕ). tally_of n e r) (more is_passed))
    go Empty = rw (keep_more is_passed os Empty, keep_more is_empty os Empty, keep_more is_refused os Empty) (ap (λ (n : ℕ). tally_of p n r) (more is_empty))
    go Refused = rw (keep_more is_passed os Refused, keep_more is_empty os Refused, keep_more is_refused os Refused) (ap (λ (n : ℕ). tally_of p e n) (more is_refused))

abbrev total : List Outcome → ℕ
total os = (tallied os).passed + (tallied os).empty + (tallied os).refused

pub tallied_sum : (os : List Outcome) → (tallied os).passed + (tallied os).empty + (tallied os).refused ≡ length os
unfolding tallied keep
tallied_sum [] = refl
tallied_sum (o ∷ os) = go o (tallied_sum os)
  where
    go : (o : Outcome) → total os ≡ length os → total (o ∷ os) ≡ length (o ∷ os)
    go Passed below = omega arith
    go Empty below = omega arith
    go Refused below = omega arith

pub tallied_most : (os : List Outcome) → ((tallied os).passed ≤ length os) × ((tallied os).empty ≤ length os) × ((tallied os).refused ≤ length os)
tallied_most os = let s = tallied_sum os in (omega arith, omega arith, omega arith)
