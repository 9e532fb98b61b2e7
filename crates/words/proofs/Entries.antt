-- Laws of entries, one after the other, and of a walk over them; sums and maps. Assumes nothing.
--
--   entries_split, entries_snoc, skip_snoc       a table's entries, and its last one
--   entries_length, entries_at_lem, entries_mem  how many, which stands where
--   and_assoc, first_append, first_snoc          the first refusal of verdicts one after the other, and of joined lists
--   Walked, walked_start, -next, -refused, -end  a walk over entries that has come to its entry i, at the place p
--   walk-keeps                                   what holds of a place and of the place after each entry without a refusal
--   sum_append, map_append, map_at               sums and maps
--   big_one                                      a number of one byte
use Prim.Native.Nat.{ℕ, zero, suc, ◌+◌, ◌-◌, ◌≤◌, ◌<◌}
use mathlib.Core.Path.{◌≡◌, refl, ap, sym, ◌∙◌, subst}
use mathlib.Core.List.{List, [], ◌∷◌, ◌++◌, map, Memᴰ}
use native.Mathlib.Omega.{arith}
use native.Mathlib.Numerals.{add-one}
use native.Mathlib.Nat.{sub-zero, add-zero}
use lib.ListN.{length, get_or}
use Rattle.words.specs.Refusals.{refused, ok, Verdict, ◌and_then◌, ◌at_place◌, first}
use Rattle.words.specs.Lists.{sum}
use Rattle.words.specs.Walks.{entries, skip}
use Rattle.words.specs.Bytes.{byte_at, big}
use Rattle.words.proofs.Tests.{by_number}
use Rattle.words.proofs.Refusals.{at_refused, and_ok, at_ok}

module _ (next : ℕ → ℕ) where
  pub entries_split : (i n p : ℕ) → i ≤ n → entries next n p ≡ entries next i p ++ entries next (n - i) (skip next i p)
  unfolding entries skip
  entries_split zero n p h = rw (sub-zero n)
  entries_split (suc i) zero p h = absurd (omega arith)
  entries_split (suc i) (suc n) p h =
      let e : suc n - suc i ≡ n - i = omega arith in
      rw e (ap (λ l. p ∷ l) (entries_split i n (next p) (omega arith)))

  pub entries_snoc : (n p : ℕ) → entries next (n + 1) p ≡ entries next n p ++ (skip next n p ∷ [])
  unfolding entries
  entries_snoc n p =
      let e : n + 1 - n ≡ suc zero = omega arith in
      entries_split n (n + 1) p (omega arith) ∙ rw e

  skip_suc : (n p : ℕ) → skip next (suc n) p ≡ next (skip next n p)
  unfolding skip
  skip_suc zero p = refl
  skip_suc (suc n) p = skip_suc n (next p)

  pub skip_snoc : (n p : ℕ) → skip next (n + 1) p ≡ next (skip next n p)
  skip_snoc n p = ap (λ m. skip next m p) (add-one n) ∙ skip_suc n p

  pub entries_length : (n p : ℕ) → length (entries next n p) ≡ n
  unfolding entries
  entries_length zero p = refl
  entries_length (suc n) p = ap suc (entries_length n (next p))

  pub entries_at_lem : (n p i : ℕ) → i < n → get_or (entries next n p) i 0 ≡ skip next i p
  unfolding entries skip
  entries_at_lem zero p i h = absurd (omega arith)
  entries_at_lem (suc n) p zero h = refl
  entries_at_lem (suc n) p (suc i) h = entries_at_lem n (next p) i (omega arith)

  pub entries_mem : (n p i : ℕ) → i < n → Memᴰ (skip next i p) (entries next n p)
  unfolding entries skip
  entries_mem zero p i h = absurd (omega arith)
  entries_mem (suc n) p zero h = Memᴰ.head refl
  entries_mem (suc n) p (suc i) h = Memᴰ.tail (entries_mem n (next p) i (omega arith))

pub and_assoc : (u v w : Verdict) → ((u and_then v) and_then w) ≡ (u and_then (v and_then w))
and_assoc (refused n p) v w = refl
and_assoc (ok u) v w = refl

pub first_append : (f : ℕ → Verdict) (xs ys : List ℕ) → first f (xs ++ ys) ≡ (first f xs and_then first f ys)
unfolding first
first_append f [] ys = refl
first_append f (x ∷ xs) ys = rw (first_append f xs ys) (sym (and_assoc (f x) (first f xs) (first f ys)))

and_unit : (v : Verdict) → (v and_then ok tt) ≡ v
and_unit (refused n p) = refl
and_unit (ok u) = refl

pub first_snoc : (f : ℕ → Verdict) (xs : List ℕ) (x : ℕ) → first f xs ≡ ok tt → first f (xs ++ (x ∷ [])) ≡ f x
unfolding first
first_snoc f xs x e = first_append f xs (x ∷ []) ∙ rw e (and_unit (f x))

-- A walk over n entries from start on, which has passed i entries and come to the place p.
pub record Walked (next fault : ℕ → ℕ) (start n i p : ℕ) : Type 0 where
  pub within : i ≤ n
  pub place : p ≡ skip next i start
  pub good : first (λ q. fault q at_place q) (entries next i start) ≡ ok tt

module _ {next fault : ℕ → ℕ} {start n : ℕ} where
  pub walked_start : Walked next fault start n 0 start
  unfolding entries skip first
  walked_start = record { within = omega arith; place = refl; good = refl }

  pub walked_next : {i p q : ℕ} → Walked next fault start n i p → i < n → fault p ≡ 0 → q ≡ next p → Walked next fault start n (i + 1) q
  walked_next {i} {p} {q} w h e f =
      record {
        within = omega arith;
        place = f ∙ ap next w.place ∙ sym (skip_snoc next i start);
        good = rw (entries_snoc next i start) (first_snoc _ (entries next i start) (skip next i start) w.good ∙ rw (← w.place, e));
      }

  pub walked_refused : {i p r : ℕ} → Walked next fault start n i p → i < n → r ≡ fault p → (r ≡ 0 → ⊥) → first (λ q. fault q at_place q) (entries next n start) ≡ refused r p
  unfolding entries first
  walked_refused {i} {p} {r} w h e f =
      let m : n - i ≡ suc (n - i - 1) = omega arith in
      rw (entries_split next i n start w.within, first_append (λ q. fault q at_place q) (entries next i start) (entries next (n - i) (skip next i start)), w.good, m, ← w.place, at_refused p e f)

  pub walked_end : {i p : ℕ} → Walked next fault start n i p → n ≤ i → (first (λ q. fault q at_place q) (entries next n start) ≡ ok tt) × (p ≡ skip next n start)
  walked_end {i} {p} w h = let e : i ≡ n = omega (arith, w.within) in (rw e at w.good, rw e at w.place)

-- What holds of the first place and, past an entry without a refusal, of the next, holds where the walk is refused and where it ends.
module _ (P : ℕ → Type 0) (next fault : ℕ → ℕ) (keeps : (p : ℕ) → P p → fault p ≡ 0 → P (next p)) where
  pub walk_keeps_end : (n p : ℕ) → P p → first (λ q. fault q at_place q) (entries next n p) ≡ ok tt → P (skip next n p)
  unfolding entries skip first
  walk_keeps_end zero p h e = h
  walk_keeps_end (suc n) p h e = let a = and_ok (fault p at_place p) _ e in walk_keeps_end n (next p) (keeps p h (at_ok _ _ a.0)) a.1

  pub walk_keeps_here : (n p m q : ℕ) → P p → first (λ q. fault q at_place q) (entries next n p) ≡ refused m q → P q
  unfolding entries first
  walk_keeps_here zero p m q h e = let z : ◌≡◌ {A = ℕ} 0 1 = cc in absurd (omega arith)
  walk_keeps_here (suc n) p m q h e = by_number (fault p)
      (λ z. walk_keeps_here n (next p) m q (keeps p h z) (rw z at e))
      (λ k z. let s : refused (suc k) p ≡ refused m q = rw z at e in let t : p ≡ q = cc in subst P t h)

pub sum_append : (xs ys : List ℕ) → sum (xs ++ ys) ≡ sum xs + sum ys
unfolding sum
sum_append [] ys = omega arith
sum_append (x ∷ xs) ys = let e = sum_append xs ys in omega arith

pub map_append : {A B : Type 0} (f : A → B) (xs ys : List A) → map f (xs ++ ys) ≡ map f xs ++ map f ys
map_append f [] ys = refl
map_append f (x ∷ xs) ys = ap (λ l. f x ∷ l) (map_append f xs ys)

pub map_at : {A B : Type 0} (f : A → B) (xs : List A) (i : ℕ) (d : A) (e : B) → i < length xs → get_or (map f xs) i e ≡ f (get_or xs i d)
map_at f [] i d e h = absurd (omega arith)
map_at f (x ∷ xs) zero d e h = refl
map_at f (x ∷ xs) (suc i) d e h = map_at f xs i d e (omega arith)

pub big_one : (s : List ℕ) (p : ℕ) → big s p 1 ≡ byte_at s p
unfolding big
big_one s p = rw (add-zero p) (omega arith)
