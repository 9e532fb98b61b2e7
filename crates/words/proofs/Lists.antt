-- Laws of lists: membership, order, joined lists. Assumes nothing.
--
--   each_cong, each_append, each_each, each_map                  `each` of equal functions; over joined lists; of `each`; of `map`
--   each_mem, each_from                                          membership in `each`, both ways
--   keep_mem, keep_from, keep_cong                               membership in `keep`, both ways; `keep` of equal tests
--   keep_append, keep_nothing, some_append, some_none, some_mem  tests over joined lists, and over lists where none passes
--   some_from                                                    an element that passes a test
--   has_from, has_mem                                            a number that is among numbers, both ways
--   is_or_from, is_or_mem                                        a number that is one number, or among others, both ways
--   upto_mem, upto_from                                          membership in `upto`, both ways
--   nth_mem, nth_found                                           what stands at a number
--   last_that_snoc                                               one element more at the end
--   map_cong                                                     `map` of functions that are equal on the list
--   Rising, rising_append, -keep, -each, -map, -upto, -weaken    every element before every later one
use Prim.Native.Nat.{ℕ, zero, suc, ◌≤◌, ◌<◌}
use mathlib.Core.Path.{◌≡◌, refl, ap, ap₂, sym, ◌∙◌, subst}
use mathlib.Core.List.Memᴰ
use mathlib.Core.List.{List, [], ◌∷◌, ◌++◌, map, append_assoc, Memᴰ}
use mathlib.Core.Bool.{Bool, true, false, ◌||◌, true-or, false-or}
use mathlib.Core.Logic.{◌⊎◌, inl, inr, ⊎_elim}
use native.Mathlib.Omega.{arith}
use borrow.Author.Tests.{leb-true, leb-false, eqb-true, eq-eqb}
use lib.Dec.{leb, eqb, eqb-suc-zero}
use lib.ListN.{length, get_or}
use Rattle.words.specs.Tests.{pick}
use Rattle.words.specs.Lists.{keep, some, has, each, nth, upto, last_that}
use Rattle.words.proofs.Tests.{by_bool, true_false}

module _ {A B : Type 0} where
  pub each_cong : (f g : A → List B) (xs : List A) → ((x : A) → Memᴰ x xs → f x ≡ g x) → each f xs ≡ each g xs
  unfolding each
  each_cong f g [] h = refl
  each_cong f g (x ∷ xs) h = ap₂ ◌++◌ (h x (Memᴰ.head refl)) (each_cong f g xs (λ y m. h y (Memᴰ.tail m)))

  pub each_append : (f : A → List B) (xs ys : List A) → each f (xs ++ ys) ≡ each f xs ++ each f ys
  unfolding each
  each_append f [] ys = refl
  each_append f (x ∷ xs) ys = rw (each_append f xs ys) (sym (append_assoc (f x) (each f xs) (each f ys)))

  pub each_mem : (f : A → List B) {x : A} {y : B} (xs : List A) → Memᴰ x xs → Memᴰ y (f x) → Memᴰ y (each f xs)
  unfolding each
  each_mem f [] m k = absurd (Memᴰ.not-nil m)
  each_mem f {x} {y} (a ∷ xs) m k = go (each_mem f xs) (Memᴰ.cases_cons m)
    where
      go : (Memᴰ x xs → Memᴰ y (f x) → Memᴰ y (each f xs)) → (x ≡ a) ⊎ Memᴰ x xs → Memᴰ y (f a ++ each f xs)
      go below (inl e) = Memᴰ.append_left (each f xs) (subst (λ (z : A). Memᴰ y (f z)) e k)
      go below (inr t) = Memᴰ.append_right (f a) (below t k)

  pub each_from : (f : A → List B) {y : B} (xs : List A) → Memᴰ y (each f xs) → (x : A) × Memᴰ x xs × Memᴰ y (f x)
  unfolding each
  each_from f [] m = absurd (Memᴰ.not-nil m)
  each_from f {y} (a ∷ xs) m = go (each_from f xs) (Memᴰ.append_cases (f a) m)
    where
      go : (Memᴰ y (each f xs) → (x : A) × Memᴰ x xs × Memᴰ y (f x)) → Memᴰ y (f a) ⊎ Memᴰ y (each f xs) → (x : A) × Memᴰ x (a ∷ xs) × Memᴰ y (f x)
      go below (inl k) = (a, Memᴰ.head refl, k)
      go below (inr k) = ((below k).0, Memᴰ.tail (below k).1, (below k).2)

pub each_each : {A B C : Type 0} (f : B → List C) (g : A → List B) (xs : List A) → each f (each g xs) ≡ each (λ x. each f (g x)) xs
unfolding each
each_each f g [] = refl
each_each f g (x ∷ xs) = each_append f (g x) (each g xs) ∙ ap (λ l. each f (g x) ++ l) (each_each f g xs)

pub each_map : {A B C : Type 0} (f : B → List C) (g : A → B) (xs : List A) → each f (map g xs) ≡ each (λ x. f (g x)) xs
unfolding each
each_map f g [] = refl
each_map f g (x ∷ xs) = ap (λ l. f (g x) ++ l) (each_map f g xs)

module _ {A : Type 0} (t : A → Bool) where
  pub keep_mem : {x : A} (xs : List A) → Memᴰ x xs → t x ≡ true → Memᴰ x (keep t xs)
  unfolding keep
  keep_mem [] m h = absurd (Memᴰ.not-nil m)
  keep_mem {x} (a ∷ xs) m h = go (keep_mem xs) (Memᴰ.cases_cons m) (t a) refl
    where
      go : (Memᴰ x xs → t x ≡ true → Memᴰ x (keep t xs)) → (x ≡ a) ⊎ Memᴰ x xs → (b : Bool) → t a ≡ b → Memᴰ x (pick (t a) (a ∷ keep t xs) (keep t xs))
      go below (inl e) true q = rw q (Memᴰ.head e)
      go below (inl e) false q = true_false (t a) (sym (ap t e) ∙ h) q
      go below (inr k) true q = rw q (Memᴰ.tail (below k h))
      go below (inr k) false q = rw q (below k h)

  pub keep_from : {x : A} (xs : List A) → Memᴰ x (keep t xs) → Memᴰ x xs × (t x ≡ true)
  unfolding keep
  keep_from [] m = absurd (Memᴰ.not-nil m)
  keep_from {x} (a ∷ xs) m = go (keep_from xs) (t a) refl
    where
      head : (Memᴰ x (keep t xs) → Memᴰ x xs × (t x ≡ true)) → t a ≡ true → (x ≡ a) ⊎ Memᴰ x (keep t xs) → Memᴰ x (a ∷ xs) × (t x ≡ true)
      head below q (inl e) = (Memᴰ.head e, ap t e ∙ q)
      head below q (inr k) = (Memᴰ.tail (below k).0, (below k).1)

      go : (Memᴰ x (keep t xs) → Memᴰ x xs × (t x ≡ true)) → (b : Bool) → t a ≡ b → Memᴰ x (a ∷ xs) × (t x ≡ true)
      go below true q = head below q (Memᴰ.cases_cons (rw q at m))
      go below false q = (Memᴰ.tail (below (rw q at m)).0, (below (rw q at m)).1)

pub keep_cong : {A : Type 0} (t u : A → Bool) (xs : List A) → ((x : A) → t x ≡ u x) → keep t xs ≡ keep u xs
unfolding keep
keep_cong t u [] h = refl
keep_cong t u (x ∷ xs) h = rw (h x, keep_cong t u xs h)

pub upto_mem : (n k : ℕ) → 0 < k → k ≤ n → Memᴰ k (upto n)
unfolding upto
upto_mem zero k p h = absurd (omega arith)
upto_mem (suc n) k p h = go (upto_mem n k p) (leb k n) refl
  where
    go : (k ≤ n → Memᴰ k (upto n)) → (b : Bool) → leb k n ≡ b → Memᴰ k (upto n ++ (suc n ∷ []))
    go below true q = Memᴰ.append_left (suc n ∷ []) (below (leb-true k n q))
    go below false q = let l = leb-false k n q in Memᴰ.append_right (upto n) (Memᴰ.head (omega arith))

pub upto_from : (n k : ℕ) → Memᴰ k (upto n) → (0 < k) × (k ≤ n)
unfolding upto
upto_from zero k m = absurd (Memᴰ.not-nil m)
upto_from (suc n) k m = go (upto_from n k) (Memᴰ.append_cases (upto n) m)
  where
    go : (Memᴰ k (upto n) → (0 < k) × (k ≤ n)) → Memᴰ k (upto n) ⊎ Memᴰ k (suc n ∷ []) → (0 < k) × (k ≤ suc n)
    go below (inl h) = let b = below h in omega arith
    go below (inr h) = let e = Memᴰ.eq_of_singleton h in omega arith

module _ {A : Type 0} where
  get_d_mem : (xs : List A) (n : ℕ) (d : A) → n < length xs → Memᴰ (get_or xs n d) xs
  get_d_mem [] n d h = absurd (omega arith)
  get_d_mem (x ∷ xs) zero d h = Memᴰ.head refl
  get_d_mem (x ∷ xs) (suc n) d h = Memᴰ.tail (get_d_mem xs n d (omega arith))

  pub nth_mem : (xs : List A) (n : ℕ) (d : A) → 0 < n → n ≤ length xs → Memᴰ (nth xs n d) xs
  unfolding nth
  nth_mem xs zero d h k = absurd (omega arith)
  nth_mem xs (suc n) d h k = get_d_mem xs n d (omega arith)

-- a number other than 0 that is found stands in the list
pub nth_found : (xs : List ℕ) (n m : ℕ) → nth xs n 0 ≡ m → (m ≡ 0 → ⊥) → Memᴰ m xs
unfolding nth
nth_found xs zero m e h = absurd (h (sym e))
nth_found [] (suc n) m e h = absurd (h (sym e))
nth_found (x ∷ xs) (suc zero) m e h = Memᴰ.head (sym e)
nth_found (x ∷ xs) (suc (suc n)) m e h = Memᴰ.tail (nth_found xs (suc n) m e h)

-- Lists in which each element stands in a relation to every later one.
abbrev pub Rising : {A : Type 0} → (A → A → Type 0) → List A → Type 0
Rising R [] = Unit {0}
Rising {A} R (x ∷ xs) = ((y : A) → Memᴰ y xs → R x y) × Rising R xs

module _ {A : Type 0} (R : A → A → Type 0) where
  pub rising_append : (xs ys : List A) → Rising R xs → Rising R ys → ((x y : A) → Memᴰ x xs → Memᴰ y ys → R x y) → Rising R (xs ++ ys)
  rising_append [] ys g h k = h
  rising_append (x ∷ xs) ys g h k = (
    (λ y m. ⊎_elim (λ a. g.0 y a) (λ b. k x y (Memᴰ.head refl) b) (Memᴰ.append_cases xs m)),
    rising_append xs ys g.1 h (λ a b m n. k a b (Memᴰ.tail m) n),
  )

  pub rising_keep : (t : A → Bool) (xs : List A) → Rising R xs → Rising R (keep t xs)
  unfolding keep
  rising_keep t [] h = tt
  rising_keep t (x ∷ xs) h = by_bool (t x)
      (λ q. rw q ((λ y m. h.0 y (keep_from t xs m).0), rising_keep t xs h.1))
      (λ q. rw q (rising_keep t xs h.1))

pub rising_each : {A B : Type 0} (R : A → A → Type 0) (S : B → B → Type 0) (f : A → List B) (xs : List A) → Rising R xs → ((x : A) → Rising S (f x)) → ((x y : A) (a b : B) → R x y → Memᴰ a (f x) → Memᴰ b (f y) → S a b) → Rising S (each f xs)
unfolding each
rising_each R S f [] h g k = tt
rising_each R S f (x ∷ xs) h g k =
    rising_append S (f x) (each f xs) (g x) (rising_each R S f xs h.1 g k)
    (λ a b m n. let w = each_from f xs n in k x w.0 a b (h.0 w.0 w.1) m w.2)

pub rising_map : {A B : Type 0} (R : A → A → Type 0) (S : B → B → Type 0) (f : A → B) (xs : List A) → Rising R xs → ((x y : A) → R x y → S (f x) (f y)) → Rising S (map f xs)
rising_map R S f [] h k = tt
rising_map R S f (x ∷ xs) h k =
    ((λ y m. let w = Memᴰ.of_map f xs m in subst (S (f x)) w.2 (k x w.0 (h.0 w.0 w.1))), rising_map R S f xs h.1 k)

pub rising_upto : (n : ℕ) → Rising ◌<◌ (upto n)
unfolding upto
rising_upto zero = tt
rising_upto (suc n) = rising_append ◌<◌ (upto n) (suc n ∷ []) (rising_upto n) ((λ y m. absurd (Memᴰ.not-nil m)), tt)
    (λ x y m k. let a = upto_from n x m in let b = Memᴰ.eq_of_singleton k in omega arith)

pub rising_weaken : {A : Type 0} (R S : A → A → Type 0) (xs : List A) → ((x y : A) → R x y → S x y) → Rising R xs → Rising S xs
rising_weaken R S [] k h = tt
rising_weaken R S (x ∷ xs) k h = ((λ y m. k x y (h.0 y m)), rising_weaken R S xs k h.1)

pub map_cong : {A B : Type 0} (f g : A → B) (xs : List A) → ((x : A) → Memᴰ x xs → f x ≡ g x) → map f xs ≡ map g xs
map_cong f g [] h = refl
map_cong f g (x ∷ xs) h = ap₂ ◌∷◌ (h x (Memᴰ.head refl)) (map_cong f g xs (λ y m. h y (Memᴰ.tail m)))

-- `some` and `keep` over joined lists
module _ {A : Type 0} where
  pub some_append : (t : A → Bool) (xs ys : List A) → some t (xs ++ ys) ≡ (some t xs || some t ys)
  unfolding some
  some_append t [] ys = sym (false-or (some t ys))
  some_append t (x ∷ xs) ys = rw (some_append t xs ys) (by_bool (t x) (λ q. simp (q, true-or)) (λ q. simp (q, false-or)))

  pub some_none : (t : A → Bool) (xs : List A) → ((x : A) → Memᴰ x xs → t x ≡ false) → some t xs ≡ false
  unfolding some
  some_none t [] h = refl
  some_none t (x ∷ xs) h = rw (h x (Memᴰ.head refl), some_none t xs (λ y m. h y (Memᴰ.tail m)))

  pub keep_append : (t : A → Bool) (xs ys : List A) → keep t (xs ++ ys) ≡ keep t xs ++ keep t ys
  unfolding keep
  keep_append t [] ys = refl
  keep_append t (x ∷ xs) ys = rw (keep_append t xs ys) (by_bool (t x) (λ q. rw q) (λ q. rw q))

  pub keep_nothing : (t : A → Bool) (xs : List A) → ((x : A) → Memᴰ x xs → t x ≡ false) → keep t xs ≡ []
  unfolding keep
  keep_nothing t [] h = refl
  keep_nothing t (x ∷ xs) h = rw (h x (Memᴰ.head refl), keep_nothing t xs (λ y m. h y (Memᴰ.tail m)))

-- for a loop that goes forward
pub last_that_snoc : {A : Type 0} (t : A → Bool) (xs : List A) (x : A) → last_that t (xs ++ (x ∷ [])) ≡ pick (t x) (suc (length xs)) (last_that t xs)
unfolding last_that
last_that_snoc t [] x = by_bool (t x) (λ q. rw q) (λ q. rw q)
last_that_snoc t (y ∷ xs) x = rw (last_that_snoc t xs x) (by_bool (t x) (λ q. rw (q, eqb-suc-zero (length xs))) (λ q. rw q))

pub some_mem : {A : Type 0} (t : A → Bool) {x : A} (xs : List A) → Memᴰ x xs → t x ≡ true → some t xs ≡ true
unfolding some
some_mem t [] m h = absurd (Memᴰ.not-nil m)
some_mem t {x} (y ∷ xs) m h = let below = some_mem t {x = x} xs in ⊎_elim
    (λ e. rw (← e, h))
    (λ k. rw (below k h) (by_bool (t y) (λ q. rw q) (λ q. rw q)))
    (Memᴰ.cases_cons m)

pub has_from : (n : ℕ) (ns : List ℕ) → has n ns ≡ true → Memᴰ n ns
unfolding some
has_from n [] h = true_false false h refl
has_from n (m ∷ ns) h = by_bool (eqb n m)
    (λ q. Memᴰ.head (eqb-true n m q))
    (λ q. Memᴰ.tail (has_from n ns (rw q at h)))

pub has_mem : (n : ℕ) (ns : List ℕ) → Memᴰ n ns → has n ns ≡ true
has_mem n ns m = some_mem (λ k. eqb n k) ns m (eq-eqb n n refl)

pub is_or_from : (n m : ℕ) (ns : List ℕ) → (eqb n m || has n ns) ≡ true → (n ≡ m) ⊎ Memᴰ n ns
is_or_from n m ns h = by_bool (eqb n m) (λ t. inl (eqb-true n m t)) (λ t. inr (has_from n ns (rw t at h)))

pub is_or_mem : (n m : ℕ) (ns : List ℕ) → (n ≡ m) ⊎ Memᴰ n ns → (eqb n m || has n ns) ≡ true
is_or_mem n m ns (inl e) = rw (eq-eqb n m e)
is_or_mem n m ns (inr k) = rw (has_mem n ns k) (by_bool (eqb n m) (λ t. rw t) (λ t. rw t))

pub some_from : {A : Type 0} (t : A → Bool) (xs : List A) → some t xs ≡ true → (x : A) × Memᴰ x xs × (t x ≡ true)
unfolding some
some_from t [] e = true_false false e refl
some_from t (x ∷ xs) e = by_bool (t x)
    (λ q. (x, Memᴰ.head refl, q))
    (λ q. let w = some_from t xs (rw q at e) in (w.0, Memᴰ.tail w.1, w.2))
