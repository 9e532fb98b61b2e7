-- Laws of joined lists and of the first refusal in them; rising lists of numbers; parts of parts. Assumes nothing.
--
--   each_length                 the length of joined lists is a sum
--   each_by_number              joined lists, element by number
--   nth_map                     the nth of a list of values
--   nth_front, nth_back         the nth of joined lists
--   map_keep                    `keep` over a list of values
--   first_keep, first_each      the first refusal of the elements that pass, and of joined lists
--   first_earliest, first_here  the first refusal of a rising list: of the first place that has one, both ways
--   keep_and                    two tests at once
--   each_single                 joined lists of one element
--   rising_cut                  a rising list of numbers, cut at one of them
--   keep_one                    the one element of a rising list of numbers that is a number
--   part_byte, part_part        a byte of a part, a part of a part
use Prim.Native.Nat.{ℕ, zero, suc, ◌+◌, ◌-◌, ◌≤◌, ◌<◌}
use mathlib.Core.Path.{◌≡◌, refl, ap, ap₂, sym, ◌∙◌}
use mathlib.Core.List.Memᴰ
use mathlib.Core.List.{List, [], ◌∷◌, ◌++◌, map, Memᴰ}
use mathlib.Core.Logic.{⊎_elim}
use mathlib.Core.Bool.{Bool, ◌&&◌}
use native.Mathlib.Omega.{arith}
use borrow.Author.Tests.{eq-eqb, ne_eqb, lt-ltb, le-ltb}
use lib.ListN.{length, take, drop, length-append, length-take, length-drop, get_or-append}
use lib.Seq.{get_or-take, get_or-drop, get_or-append-add, ext_get_or, take-suc, take-length}
use Rattle.words.specs.Tests.{pick, ◌<?◌, ◌≡?◌}
use Rattle.words.specs.Refusals.{refused, ok, Verdict, ◌at_place◌, first}
use Rattle.words.specs.Lists.{keep, each, nth, upto, sum}
use Rattle.words.specs.Bytes.{byte_at, part}
use Rattle.words.proofs.Tests.{by_bool, by_number}
use Rattle.words.proofs.Refusals.{ok_refused}
use Rattle.words.proofs.Lists.{each_append, keep_nothing, Rising}
use Rattle.words.proofs.Entries.{first_append}
use Rattle.words.proofs.Kept.{keep_yes, keep_no, keep_all}

pub each_length : {A B : Type 0} (f : A → List B) (xs : List A) → length (each f xs) ≡ sum (map (λ x. length (f x)) xs)
unfolding each sum
each_length f [] = refl
each_length f (x ∷ xs) = length-append (f x) (each f xs) ∙ ap (λ (n : ℕ). length (f x) + n) (each_length f xs)

pub nth_map : {A B : Type 0} (f : A → B) (xs : List A) (n : ℕ) (d : A) (e : B) → 0 < n → n ≤ length xs → nth (map f xs) n e ≡ f (nth xs n d)
unfolding nth
nth_map f xs zero d e h l = absurd (omega arith)
nth_map f [] (suc n) d e h l = absurd (omega arith)
nth_map f (x ∷ xs) (suc zero) d e h l = refl
nth_map f (x ∷ xs) (suc (suc n)) d e h l = nth_map f xs (suc n) d e (omega arith) (omega arith)

-- the nth of joined lists
module _ {A : Type 0} where
  pub nth_front : (xs ys : List A) (n : ℕ) (d : A) → n ≤ length xs → nth (xs ++ ys) n d ≡ nth xs n d
  unfolding nth
  nth_front xs ys zero d h = refl
  nth_front xs ys (suc n) d h = get_or-append xs ys d n (omega arith)

  pub nth_back : (xs ys : List A) (n : ℕ) (d : A) → length xs < n → nth (xs ++ ys) n d ≡ nth ys (n - length xs) d
  nth_back xs ys n d h =
      let e : n ≡ suc (length xs + (n - length xs - 1)) = omega arith in
      let f : n - length xs ≡ suc (n - length xs - 1) = omega arith in
      ap (λ (k : ℕ). nth (xs ++ ys) k d) e ∙ back (n - length xs - 1) ∙ ap (λ (k : ℕ). nth ys k d) (sym f)
    where
      back : (i : ℕ) → nth (xs ++ ys) (suc (length xs + i)) d ≡ nth ys (suc i) d
      back i = unfold nth in get_or-append-add xs ys i d

pub map_keep : {A B : Type 0} (t : B → Bool) (f : A → B) (xs : List A) → keep t (map f xs) ≡ map f (keep (λ x. t (f x)) xs)
map_keep t f [] = unfold keep in refl
map_keep t f (x ∷ xs) =
    let below = map_keep t f xs in
    by_bool (t (f x))
    (λ q. rw (keep_yes t (f x) (map f xs) q, keep_yes (λ x. t (f x)) x xs q) (ap (λ l. f x ∷ l) below))
    (λ q. rw (keep_no t (f x) (map f xs) q, keep_no (λ x. t (f x)) x xs q) below)

-- the first refusal
pub first_keep : (f : ℕ → Verdict) (t : ℕ → Bool) (xs : List ℕ) → first f (keep t xs) ≡ first (λ p. pick (t p) (f p) (ok tt)) xs
unfolding first keep
first_keep f t [] = refl
first_keep f t (x ∷ xs) = let below = first_keep f t xs in by_bool (t x)
    (λ q. rw (q, below))
    (λ q. rw (q, below))

pub first_each : (f : ℕ → Verdict) (g : ℕ → List ℕ) (xs : List ℕ) → first f (each g xs) ≡ first (λ x. first f (g x)) xs
unfolding first each
first_each f g [] = refl
first_each f g (x ∷ xs) = let below = first_each f g xs in first_append f (g x) (each g xs) ∙ rw below

-- the first refusal of a rising list is that of the first place that has one
pub first_earliest : (fault : ℕ → ℕ) (ps : List ℕ) {m q : ℕ} → Rising ◌<◌ ps → first (λ p. fault p at_place p) ps ≡ refused m q → Memᴰ q ps × (fault q ≡ m) × ((p : ℕ) → Memᴰ p ps → p < q → fault p ≡ 0)
unfolding first
first_earliest fault [] r e = ok_refused (sym e)
first_earliest fault (x ∷ ps) {m} {q} r e =
    let below = first_earliest fault ps {m = m} {q = q} r.1 in
    by_number (fault x)
    (λ z.
    let w = below (rw z at e) in
    (Memᴰ.tail w.0, w.1, λ p k l. ⊎_elim (λ c. rw c z) (λ c. w.2 p c l) (Memᴰ.cases_cons k)))
    (λ k z.
    let s : refused (suc k) x ≡ refused m q = rw z at e in
    let a : suc k ≡ m = cc in
    let b : x ≡ q = cc in
    (Memᴰ.head (sym b), rw (← b) (z ∙ a), λ p j l. ⊎_elim (λ c. absurd (omega arith)) (λ c. let g = r.0 p c in absurd (omega arith)) (Memᴰ.cases_cons j)))

pub first_here : (fault : ℕ → ℕ) (ps : List ℕ) (m q : ℕ) → Rising ◌<◌ ps → Memᴰ q ps → fault q ≡ suc m → ((p : ℕ) → Memᴰ p ps → p < q → fault p ≡ 0) → first (λ p. fault p at_place p) ps ≡ refused (suc m) q
unfolding first
first_here fault [] m q r k e h = absurd (Memᴰ.not-nil k)
first_here fault (x ∷ ps) m q r k e h =
    let below = first_here fault ps m q r.1 in
    ⊎_elim
    (λ c. rw (← c, e))
    (λ c. rw (h x (Memᴰ.head refl) (r.0 q c)) (below c e (λ p j l. h p (Memᴰ.tail j) l)))
    (Memᴰ.cases_cons k)

pub keep_and : {A : Type 0} (t u : A → Bool) (xs : List A) → keep (λ x. t x && u x) xs ≡ keep u (keep t xs)
keep_and t u [] = unfold keep in refl
keep_and t u (x ∷ xs) =
    let below = keep_and t u xs in
    by_bool (t x)
    (λ q. by_bool (u x)
    (λ v. rw (keep_yes (λ x. t x && u x) x xs (rw (q, v)), keep_yes t x xs q, keep_yes u x (keep t xs) v) (ap (λ l. x ∷ l) below))
    (λ v. rw (keep_no (λ x. t x && u x) x xs (rw (q, v)), keep_yes t x xs q, keep_no u x (keep t xs) v) below))
    (λ q. rw (keep_no (λ x. t x && u x) x xs (rw q), keep_no t x xs q) below)

pub each_single : {A B : Type 0} (f : A → B) (xs : List A) → each (λ x. f x ∷ []) xs ≡ map f xs
unfolding each
each_single f [] = refl
each_single f (x ∷ xs) = ap (λ l. f x ∷ l) (each_single f xs)

-- a rising list of numbers, cut at one of them
pub rising_cut : (q : ℕ) (xs : List ℕ) → Rising ◌<◌ xs → Memᴰ q xs → xs ≡ keep (λ p. p <? q) xs ++ (q ∷ keep (λ p. q <? p) xs)
rising_cut q [] r m = absurd (Memᴰ.not-nil m)
rising_cut q (x ∷ xs) r m =
    let below = rising_cut q xs r.1 in
    ⊎_elim
    (λ e.
    let none : keep (λ p. p <? q) (x ∷ xs) ≡ [] = keep_nothing (λ p. p <? q) (x ∷ xs) (λ y k. ⊎_elim (λ f. le-ltb y q (omega arith)) (λ j. let l = r.0 y j in le-ltb y q (omega arith)) (Memᴰ.cases_cons k)) in
    let rest : keep (λ p. q <? p) (x ∷ xs) ≡ xs = keep_no (λ p. q <? p) x xs (le-ltb q x (omega arith)) ∙ keep_all (λ p. q <? p) xs (λ y k. let l = r.0 y k in lt-ltb q y (omega arith)) in
    rw (none, rest) (ap (λ (y : ℕ). y ∷ xs) (sym e)))
    (λ k.
    let l = r.0 q k in
    rw (keep_yes (λ p. p <? q) x xs (lt-ltb x q l), keep_no (λ p. q <? p) x xs (le-ltb q x (omega arith))) (ap (λ t. x ∷ t) (below k)))
    (Memᴰ.cases_cons m)

-- a number of a rising list stands in it once
pub keep_one : (q : ℕ) (xs : List ℕ) → Rising ◌<◌ xs → Memᴰ q xs → keep (λ p. p ≡? q) xs ≡ q ∷ []
keep_one q [] r m = absurd (Memᴰ.not-nil m)
keep_one q (x ∷ xs) r m =
    let below = keep_one q xs r.1 in
    ⊎_elim
    (λ e. keep_yes (λ p. p ≡? q) x xs (eq-eqb x q (sym e)) ∙ ap₂ ◌∷◌ (sym e) (keep_nothing (λ p. p ≡? q) xs (λ y k. let l = r.0 y k in ne_eqb y q (omega arith))))
    (λ k. let l = r.0 q k in keep_no (λ p. p ≡? q) x xs (ne_eqb x q (omega arith)) ∙ below k)
    (Memᴰ.cases_cons m)

-- a list by the numbers of its elements
by_numbers : {A B : Type 0} (f : A → List B) (xs : List A) (d : A) (n : ℕ) → n ≤ length xs → each (λ k. f (nth xs k d)) (upto n) ≡ each f (take n xs)
unfolding upto
by_numbers f xs d zero h = unfold each in refl
by_numbers f xs d (suc n) h =
    let below = by_numbers f xs d n (omega arith) in
    each_append (λ k. f (nth xs k d)) (upto n) (suc n ∷ [])
    ∙ ap (λ l. l ++ each (λ k. f (nth xs k d)) (suc n ∷ [])) below
    ∙ (let s : take (suc n) xs ≡ take n xs ++ (nth xs (suc n) d ∷ []) = unfold nth in take-suc xs n d (omega arith) in
    rw s (let z : each (λ k. f (nth xs k d)) (suc n ∷ []) ≡ each f (nth xs (suc n) d ∷ []) = unfold each in refl in rw z (sym (each_append f (take n xs) (nth xs (suc n) d ∷ [])))))

pub each_by_number : {A B : Type 0} (f : A → List B) (xs : List A) (d : A) → each (λ k. f (nth xs k d)) (upto (length xs)) ≡ each f xs
each_by_number f xs d = by_numbers f xs d (length xs) (omega arith) ∙ ap (each f) (take-length xs)

-- parts
pub part_byte : (s : List ℕ) (a n i : ℕ) → i < n → byte_at (part s a n) i ≡ byte_at s (a + i)
part_byte s a n i h = get_or-take n (drop a s) i 0 h ∙ get_or-drop a s i 0

pub part_part : (s : List ℕ) (a n b m : ℕ) → b + m ≤ n → part (part s a n) b m ≡ part s (a + b) m
part_part s a n b m l =
    ext_get_or 0 (part (part s a n) b m) (part s (a + b) m) (simp (length-take, length-drop) (omega arith))
    (λ i k.
    let j = simp (length-take, length-drop) at k in
    let z : a + (b + i) ≡ a + b + i = omega arith in
    part_byte (part s a n) b m i (omega arith) ∙ part_byte s a n (b + i) (omega arith) ∙ ap (byte_at s) z ∙ sym (part_byte s (a + b) m i (omega arith)))
