-- Laws of lists by number, of what stands in a written list, and of rows of four numbers. Assumes nothing.
--
--   upto_length, upto_at, upto_more, upto_split  1, 2, .. n
--   map_upto, nth_upto                           a list by its numbers; the nth of it
--   get_d_mem                                    what stands at a place is in the list
--   keep_at                                      the next element that passes
--   last_that_cong, last_that_upto               the last number that passes
--   write_here, write_before, write_after        what stands in a written buffer
--   row_write                                    four numbers written one after the other
--   take_sum_le                                  the sum of the first numbers
--   rows_length, rows_more, rows_at              rows of four numbers, one after the other
use Prim.Native.Nat.{ℕ, zero, suc, ◌+◌, ◌-◌, ◌*◌, ◌≤◌, ◌<◌}
use mathlib.Core.Path.{◌≡◌, refl, ap, ◌∙◌, subst}
use mathlib.Core.List.{List, [], ◌∷◌, ◌++◌, map, append_assoc, append-nil, Memᴰ}
use mathlib.Core.Bool.{Bool, true}
use native.Mathlib.Omega.{arith}
use native.Mathlib.Numerals.{add-one, add-two, add-three}
use borrow.Author.Tests.{leb-true, leb-false}
use lib.Dec.{leb}
use lib.ListN.{length, get_or, take, drop, set, length-append, length-map, get_or-append, get_or-eq_default}
use lib.Seq.{sets-eq, get_or-append-add, get_or_at, get_or-take, get_or-drop, length-take-le, ext_get_or}
use Rattle.words.specs.Tests.{◌≤?◌, pick}
use Rattle.words.specs.Lists.{keep, nth, upto, last_that, each, sum}
use Rattle.words.specs.Buffers.{write_at}
use Rattle.words.proofs.Tests.{by_bool}
use Rattle.words.proofs.Lists.{keep_append, last_that_snoc, each_append}
use Rattle.words.proofs.Entries.{map_at}

-- 1, 2, .. n
pub upto_more : (n : ℕ) → upto (n + 1) ≡ upto n ++ ((n + 1) ∷ [])
unfolding upto
upto_more n = rw (add-one n)

pub upto_length : (n : ℕ) → length (upto n) ≡ n
unfolding upto
upto_length zero = refl
upto_length (suc n) = let e = upto_length n in rw (length-append (upto n) (suc n ∷ [])) (omega arith)

pub upto_at : (n i : ℕ) → i < n → get_or (upto n) i 0 ≡ i + 1
unfolding upto
upto_at zero i h = absurd (omega arith)
upto_at (suc n) i h =
    let l = upto_length n in
    let below = upto_at n i in
    by_bool (leb (suc i) n)
    (λ t. let u = leb-true (suc i) n t in get_or-append (upto n) (suc n ∷ []) 0 i (omega arith) ∙ below u)
    (λ t.
    let u = leb-false (suc i) n t in
    let e : i ≡ n = omega arith in
    get_or_at (upto n) (suc n) [] 0 i (omega arith) ∙ (let z : suc n ≡ i + 1 = omega arith in z))

pub record Split (i n : ℕ) : Type 0 where
  pub rest : List ℕ
  pub is : upto n ≡ upto i ++ ((i + 1) ∷ rest)

pub upto_split : (i n : ℕ) → i < n → Split i n
unfolding upto
upto_split i zero h = absurd (omega arith)
upto_split i (suc n) h =
    let below = upto_split i n in
    by_bool (leb (suc i) n)
    (λ t.
    let s = below (leb-true (suc i) n t) in
    record { rest = s.rest ++ (suc n ∷ []); is = rw s.is (append_assoc (upto i) ((i + 1) ∷ s.rest) (suc n ∷ [])) })
    (λ t.
    let u = leb-false (suc i) n t in
    let e : n ≡ i = omega arith in
    record { rest = []; is = rw (e, add-one i) })

module _ {B : Type 0} (f : ℕ → B) where
  pub map_upto : (ys : List B) (d : B) (n : ℕ) → n ≡ length ys → ((i : ℕ) → i < n → f (i + 1) ≡ get_or ys i d) → map f (upto n) ≡ ys
  map_upto ys d n e h =
      let l : length (map f (upto n)) ≡ n = length-map (upto n) f ∙ upto_length n in
      ext_get_or d (map f (upto n)) ys (l ∙ e)
      (λ i k.
      let j : i < n = omega arith in
      map_at f (upto n) i 0 d (rw (upto_length n) j) ∙ ap f (upto_at n i j) ∙ h i j)

  pub nth_upto : (n m : ℕ) (d : B) → 0 < m → m ≤ n → nth (map f (upto n)) m d ≡ f m
  unfolding nth
  nth_upto n zero d h l = absurd (omega arith)
  nth_upto n (suc m) d h l =
      let j : m < n = omega arith in
      map_at f (upto n) m 0 d (rw (upto_length n) j) ∙ ap f (upto_at n m j ∙ add-one m)

  pub nth_past : (n m : ℕ) (d : B) → n < m → nth (map f (upto n)) m d ≡ d
  unfolding nth
  nth_past n zero d h = absurd (omega arith)
  nth_past n (suc m) d h = get_or-eq_default (map f (upto n)) d (rw (length-map (upto n) f, upto_length n) (omega arith))

pub nth_none : {B : Type 0} (xs : List B) (d : B) → nth xs 0 d ≡ d
unfolding nth
nth_none xs d = refl

pub nth_beyond : {B : Type 0} (xs : List B) (n : ℕ) (d : B) → length xs < n → nth xs n d ≡ d
unfolding nth
nth_beyond xs zero d h = absurd (omega arith)
nth_beyond xs (suc n) d h = get_or-eq_default xs d (omega arith)

-- the element that comes next and passes
pub keep_at : {A : Type 0} (t : A → Bool) (xs : List A) (x : A) (ys : List A) (d : A) → t x ≡ true → nth (keep t (xs ++ (x ∷ ys))) (length (keep t xs) + 1) d ≡ x
unfolding keep nth
keep_at t xs x ys d e = rw (keep_append t xs (x ∷ ys), add-one (length (keep t xs)), e) (get_or_at (keep t xs) x (keep t ys) d (length (keep t xs)) refl)

pub keep_more : {A : Type 0} (t : A → Bool) (xs : List A) (x : A) → length (keep t (xs ++ (x ∷ []))) ≡ pick (t x) (length (keep t xs) + 1) (length (keep t xs))
unfolding keep
keep_more t xs x = rw (keep_append t xs (x ∷ []), length-append (keep t xs) (keep t (x ∷ []))) (by_bool (t x) (λ q. rw q) (λ q. rw q (omega arith)))

-- the last number that passes
pub last_that_cong : {A : Type 0} (t u : A → Bool) (xs : List A) → ((x : A) → Memᴰ x xs → t x ≡ u x) → last_that t xs ≡ last_that u xs
unfolding last_that
last_that_cong t u [] h = refl
last_that_cong t u (x ∷ xs) h = rw (h x (Memᴰ.head refl), last_that_cong t u xs (λ y m. h y (Memᴰ.tail m)))

pub last_that_more : (t : ℕ → Bool) (n : ℕ) → last_that t (upto (n + 1)) ≡ pick (t (n + 1)) (n + 1) (last_that t (upto n))
last_that_more t n = rw (upto_more n, last_that_snoc t (upto n) (n + 1), upto_length n, add-one n)

pub last_that_upto : (n m : ℕ) → m ≤ n → last_that (λ k. k ≤? m) (upto n) ≡ m
unfolding upto last_that
last_that_upto zero m h = omega arith
last_that_upto (suc n) m h =
    let l = upto_length n in
    let below = last_that_upto n m in
    last_that_snoc (λ k. k ≤? m) (upto n) (suc n)
    ∙ by_bool (leb (suc n) m)
    (λ t. let u = leb-true (suc n) m t in rw t (omega arith))
    (λ t. let u = leb-false (suc n) m t in rw t (below (omega arith)))

-- a written buffer
module _ (o : List ℕ) (p : ℕ) (b : List ℕ) (fits : p + length b ≤ length o) where
  head : length (take p o) ≡ p
  head = length-take-le p o (omega arith)

  pub write_before : (i : ℕ) → i < p → get_or (write_at o p b) i 0 ≡ get_or o i 0
  unfolding write_at
  write_before i h =
      let e = head in
      rw (append_assoc (take p o) b (drop (p + length b) o)) (get_or-append (take p o) (b ++ drop (p + length b) o) 0 i (omega arith) ∙ get_or-take p o i 0 h)

  at_seam : (i : ℕ) → get_or (write_at o p b) (p + i) 0 ≡ get_or (b ++ drop (p + length b) o) i 0
  unfolding write_at
  at_seam i =
      rw (append_assoc (take p o) b (drop (p + length b) o))
      (subst (λ (k : ℕ). get_or (take p o ++ (b ++ drop (p + length b) o)) (k + i) 0 ≡ get_or (b ++ drop (p + length b) o) i 0) head (get_or-append-add (take p o) (b ++ drop (p + length b) o) i 0))

  pub write_here : (i : ℕ) → i < length b → get_or (write_at o p b) (p + i) 0 ≡ get_or b i 0
  write_here i h = at_seam i ∙ get_or-append b (drop (p + length b) o) 0 i h

  pub write_after : (i : ℕ) → p + length b ≤ i → get_or (write_at o p b) i 0 ≡ get_or o i 0
  write_after i h =
      let e : i ≡ p + (length b + (i - (p + length b))) = omega arith in
      let g : p + length b + (i - (p + length b)) ≡ i = omega arith in
      ap (λ (k : ℕ). get_or (write_at o p b) k 0) e ∙ at_seam (length b + (i - (p + length b))) ∙ get_or-append-add b (drop (p + length b) o) (i - (p + length b)) 0
      ∙ get_or-drop (p + length b) o (i - (p + length b)) 0 ∙ ap (λ (k : ℕ). get_or o k 0) g

pub row_write : (o : List ℕ) (p a b c d : ℕ) → p + 4 ≤ length o → set (set (set (set o p a) (p + 1) b) (p + 2) c) (p + 3) d ≡ write_at o p (a ∷ b ∷ c ∷ d ∷ [])
unfolding write_at
row_write o p a b c d h = rw (add-one p, add-two p, add-three p) (sets-eq (a ∷ b ∷ c ∷ d ∷ []) o p h)

-- rows of four numbers
module _ (cells : ℕ → List ℕ) (wide : (k : ℕ) → length (cells k) ≡ 4) where
  pub rows_length : (n : ℕ) → length (each cells (upto n)) ≡ n * 4
  unfolding upto each
  rows_length zero = omega arith
  rows_length (suc n) =
      let e = rows_length n in
      let f = wide (suc n) in
      rw (each_append cells (upto n) (suc n ∷ []), length-append (each cells (upto n)) (each cells (suc n ∷ [])), length-append (cells (suc n)) []) (omega arith)

  pub rows_more : (n : ℕ) → each cells (upto (n + 1)) ≡ each cells (upto n) ++ cells (n + 1)
  unfolding each
  rows_more n = rw (upto_more n, each_append cells (upto n) ((n + 1) ∷ []), append-nil (cells (n + 1)))

  pub rows_at : (n i c : ℕ) → i < n → c < 4 → get_or (each cells (upto n)) (i * 4 + c) 0 ≡ get_or (cells (i + 1)) c 0
  unfolding upto each
  rows_at zero i c h l = absurd (omega arith)
  rows_at (suc n) i c h l =
      let e = rows_length n in
      let below = rows_at n i c in
      rw (each_append cells (upto n) (suc n ∷ []))
      (by_bool (leb (suc i) n)
      (λ t. let u = leb-true (suc i) n t in get_or-append (each cells (upto n)) (each cells (suc n ∷ [])) 0 (i * 4 + c) (omega arith) ∙ below u l)
      (λ t.
      let u = leb-false (suc i) n t in
      let z : i * 4 + c ≡ length (each cells (upto n)) + c = omega arith in
      let k : suc n ≡ i + 1 = omega arith in
      let f = wide (suc n) in
      ap (λ (x : ℕ). get_or (each cells (upto n) ++ each cells (suc n ∷ [])) x 0) z ∙ get_or-append-add (each cells (upto n)) (each cells (suc n ∷ [])) c 0
      ∙ get_or-append (cells (suc n)) [] 0 c (omega arith) ∙ ap (λ (x : ℕ). get_or (cells x) c 0) k))

pub take_sum_le : (ns : List ℕ) (i : ℕ) → sum (take i ns) ≤ sum ns
unfolding sum
take_sum_le [] zero = omega arith
take_sum_le [] (suc i) = omega arith
take_sum_le (n ∷ ns) zero = omega arith
take_sum_le (n ∷ ns) (suc i) = let h = take_sum_le ns i in omega arith

pub get_d_mem : {A : Type 0} (xs : List A) (n : ℕ) (d : A) → n < length xs → Memᴰ (get_or xs n d) xs
get_d_mem [] n d h = absurd (omega arith)
get_d_mem (x ∷ xs) zero d h = Memᴰ.head refl
get_d_mem (x ∷ xs) (suc n) d h = Memᴰ.tail (get_d_mem xs n d (omega arith))
