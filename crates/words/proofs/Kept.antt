-- Laws of `keep`, `each` and of rising lists. Assumes nothing.
--
--   keep_yes, keep_no         one element more in front
--   keep_same, keep_all       `keep` of tests that are equal on the list; where all pass
--   keep_keep                 two tests, in either order
--   keep_few, keep_fewer      no more than there are; fewer, where one does not pass
--   keep_each                 `keep` over joined lists
--   each_keep                 joined lists of the elements that pass
--   some_false                where none passes
--   rising_count              a list of numbers that strictly rise, all from a up to b, has at most so many
--   rising_and                a rising list of elements that all have something
--   rising_apart              two elements of a rising list
use Prim.Native.Nat.{ℕ, ◌+◌, ◌-◌, ◌≤◌, ◌<◌}
use mathlib.Core.Path.{◌≡◌, refl, ap, sym, ◌∙◌}
use mathlib.Core.List.Memᴰ
use mathlib.Core.List.{List, [], ◌∷◌, ◌++◌, Memᴰ}
use mathlib.Core.Logic.{◌⊎◌, inl, inr, ⊎_elim}
use mathlib.Core.Bool.{Bool, true, false}
use native.Mathlib.Omega.{arith}
use lib.ListN.{length}
use Rattle.words.specs.Tests.{pick}
use Rattle.words.specs.Lists.{keep, some, each}
use Rattle.words.proofs.Tests.{by_bool, true_false}
use Rattle.words.proofs.Lists.{keep_append, some_mem, Rising}

module _ {A : Type 0} where
  pub keep_same : (t u : A → Bool) (xs : List A) → ((x : A) → Memᴰ x xs → t x ≡ u x) → keep t xs ≡ keep u xs
  unfolding keep
  keep_same t u [] h = refl
  keep_same t u (x ∷ xs) h = rw (h x (Memᴰ.head refl), keep_same t u xs (λ y m. h y (Memᴰ.tail m)))

  pub keep_all : (t : A → Bool) (xs : List A) → ((x : A) → Memᴰ x xs → t x ≡ true) → keep t xs ≡ xs
  unfolding keep
  keep_all t [] h = refl
  keep_all t (x ∷ xs) h = rw (h x (Memᴰ.head refl)) (ap (λ l. x ∷ l) (keep_all t xs (λ y m. h y (Memᴰ.tail m))))

  pub keep_yes : (t : A → Bool) (x : A) (xs : List A) → t x ≡ true → keep t (x ∷ xs) ≡ x ∷ keep t xs
  unfolding keep
  keep_yes t x xs h = rw h

  pub keep_no : (t : A → Bool) (x : A) (xs : List A) → t x ≡ false → keep t (x ∷ xs) ≡ keep t xs
  unfolding keep
  keep_no t x xs h = rw h

  pub keep_keep : (t u : A → Bool) (xs : List A) → keep t (keep u xs) ≡ keep u (keep t xs)
  keep_keep t u [] = unfold keep in refl
  keep_keep t u (x ∷ xs) =
      let below = keep_keep t u xs in
      by_bool (t x)
      (λ q. by_bool (u x)
      (λ r. rw (keep_yes u x xs r, keep_yes t x xs q, keep_yes t x (keep u xs) q, keep_yes u x (keep t xs) r) (ap (λ l. x ∷ l) below))
      (λ r. rw (keep_no u x xs r, keep_yes t x xs q, keep_no u x (keep t xs) r) below))
      (λ q. by_bool (u x)
      (λ r. rw (keep_yes u x xs r, keep_no t x xs q, keep_no t x (keep u xs) q) below)
      (λ r. rw (keep_no u x xs r, keep_no t x xs q) below))

  pub some_false : (t : A → Bool) (xs : List A) → some t xs ≡ false → (x : A) → Memᴰ x xs → t x ≡ false
  some_false t xs e x m = by_bool (t x) (λ q. true_false _ (some_mem t xs m q) e) (λ q. q)

  pub rising_apart : (R : A → A → Type 0) (xs : List A) → Rising R xs → (x y : A) → Memᴰ x xs → Memᴰ y xs → (x ≡ y) ⊎ (R x y ⊎ R y x)
  rising_apart R [] r x y m n = absurd (Memᴰ.not-nil m)
  rising_apart R (a ∷ xs) r x y m n =
      let below = rising_apart R xs r.1 x y in
      ⊎_elim
      (λ e. ⊎_elim (λ f. inl (e ∙ sym f)) (λ k. inr (inl (rw e (r.0 y k)))) (Memᴰ.cases_cons n))
      (λ j. ⊎_elim (λ f. inr (inr (rw f (r.0 x j)))) (λ k. below j k) (Memᴰ.cases_cons n))
      (Memᴰ.cases_cons m)

  pub rising_and : (R : A → A → Type 0) (P : A → Type 0) (xs : List A) → ((x : A) → Memᴰ x xs → P x) → Rising R xs → Rising (λ x y. R x y × P x) xs
  rising_and R P [] h r = tt
  rising_and R P (x ∷ xs) h r = ((λ y m. (r.0 y m, h x (Memᴰ.head refl))), rising_and R P xs (λ y m. h y (Memᴰ.tail m)) r.1)

module _ {A B : Type 0} where
  pub keep_each : (t : B → Bool) (f : A → List B) (xs : List A) → keep t (each f xs) ≡ each (λ x. keep t (f x)) xs
  unfolding each
  keep_each t f [] = unfold keep in refl
  keep_each t f (x ∷ xs) = keep_append t (f x) (each f xs) ∙ ap (λ l. keep t (f x) ++ l) (keep_each t f xs)

  pub each_keep : (f : A → List B) (t : A → Bool) (xs : List A) → each f (keep t xs) ≡ each (λ x. pick (t x) (f x) []) xs
  unfolding each keep
  each_keep f t [] = refl
  each_keep f t (x ∷ xs) =
      let below = each_keep f t xs in
      by_bool (t x) (λ q. rw q (ap (λ l. f x ++ l) below)) (λ q. rw q below)

-- numbers that strictly rise, from a up to b
pub rising_count : (a b : ℕ) (xs : List ℕ) → Rising ◌<◌ xs → ((x : ℕ) → Memᴰ x xs → (a ≤ x) × (x < b)) → length xs ≤ b - a
rising_count a b [] r h = omega arith
rising_count a b (x ∷ xs) r h =
    let i = h x (Memᴰ.head refl) in
    let below = rising_count (x + 1) b xs r.1 (λ y m. let l = r.0 y m in let j = h y (Memᴰ.tail m) in (omega arith, j.1)) in
    omega arith

pub keep_few : {A : Type 0} (t : A → Bool) (xs : List A) → length (keep t xs) ≤ length xs
unfolding keep
keep_few t [] = omega arith
keep_few t (x ∷ xs) = let h = keep_few t xs in by_bool (t x) (λ q. rw q (omega arith)) (λ q. rw q (omega arith))

pub keep_fewer : {A : Type 0} (t : A → Bool) (x : A) (xs : List A) → Memᴰ x xs → t x ≡ false → length (keep t xs) < length xs
unfolding keep
keep_fewer t x [] m f = absurd (Memᴰ.not-nil m)
keep_fewer t x (a ∷ xs) m f =
    let few = keep_few t xs in
    by_bool (t a)
    (λ p. ⊎_elim
    (λ e. true_false _ p (rw (← e) f))
    (λ k. let below = keep_fewer t x xs k f in rw p (omega arith))
    (Memᴰ.cases_cons m))
    (λ p. rw p (omega arith))
