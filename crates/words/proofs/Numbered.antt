-- Laws of the nth element, of parts past the end, and of a write after a write. Assumes nothing.
--
--   nth_none, nth_first, nth_later  the nth element of an empty list; of a list with a first element
--   nth_other, nth_map              an nth element that is not the default; of a `map`
--   part_past                       a part past the end is empty
--   put_after                       a write right after what was written
--   put_put                         two writes, one right after the other, where there is room for both
use Prim.Native.Nat.{ℕ, zero, suc, ◌+◌, ◌-◌, ◌≤◌, ◌<◌}
use mathlib.Core.Path.{◌≡◌, refl, ap, sym, ◌∙◌}
use mathlib.Core.List.{List, [], ◌∷◌, ◌++◌, map, Memᴰ}
use native.Mathlib.Omega.{arith}
use native.Mathlib.Numerals.{sub-one}
use lib.ListN.{length, drop, length-append}
use lib.Seq.{drop-nil, take-nil}
use Rattle.words.specs.Bytes.{part}
use Rattle.words.specs.Buffers.{write_at, put}
use Rattle.words.proofs.Buffers.{write_length, put_fits, write_write}
use Rattle.words.specs.Lists.{nth}

-- the nth element, from 1
module _ {A : Type 0} where
  pub nth_none : (n : ℕ) (d : A) → nth [] n d ≡ d
  unfolding nth
  nth_none zero d = refl
  nth_none (suc n) d = refl

  pub nth_first : (x : A) (xs : List A) (n : ℕ) (d : A) → 0 < n → n - 1 ≡ 0 → nth (x ∷ xs) n d ≡ x
  unfolding nth
  nth_first x xs zero d h e = absurd (omega arith)
  nth_first x xs (suc zero) d h e = refl
  nth_first x xs (suc (suc n)) d h e = absurd (omega arith)

  pub nth_later : (x : A) (xs : List A) (n : ℕ) (d : A) → (n - 1 ≡ 0 → ⊥) → nth (x ∷ xs) n d ≡ nth xs (n - 1) d
  unfolding nth
  nth_later x xs zero d h = absurd (h (omega arith))
  nth_later x xs (suc zero) d h = absurd (h (omega arith))
  nth_later x xs (suc (suc n)) d h = rw (sub-one (suc (suc n)))

  pub nth_other : (xs : List A) (n : ℕ) (d : A) → (nth xs n d ≡ d → ⊥) → Memᴰ (nth xs n d) xs
  unfolding nth
  nth_other xs zero d h = absurd (h refl)
  nth_other [] (suc n) d h = absurd (h refl)
  nth_other (x ∷ xs) (suc zero) d h = Memᴰ.head refl
  nth_other (x ∷ xs) (suc (suc n)) d h = Memᴰ.tail (nth_other xs (suc n) d h)

pub nth_map : {A B : Type 0} (f : A → B) (xs : List A) (n : ℕ) (d : A) → nth (map f xs) n (f d) ≡ f (nth xs n d)
unfolding nth
nth_map f xs zero d = refl
nth_map f [] (suc n) d = refl
nth_map f (x ∷ xs) (suc zero) d = refl
nth_map f (x ∷ xs) (suc (suc n)) d = nth_map f xs (suc n) d

-- past the end nothing stands
drop_past : (s : List ℕ) (a : ℕ) → length s ≤ a → drop a s ≡ []
drop_past [] a h = drop-nil a
drop_past (y ∷ s) zero h = absurd (omega arith)
drop_past (y ∷ s) (suc a) h = drop_past s a (omega arith)

pub part_past : (s : List ℕ) (a n : ℕ) → length s ≤ a → part s a n ≡ []
part_past s a n h = rw (drop_past s a h) (take-nil n)

-- a write right after what was written
pub put_after : (o done b : List ℕ) (at next : ℕ) → next ≡ at + length done → next + length b ≤ length o → put (write_at o at done) next b ≡ write_at o at (done ++ b)
put_after o done b at next e h =
    let n = write_length o at done (omega arith) in
    put_fits (write_at o at done) next b (omega arith) ∙ ap (λ (q : ℕ). write_at (write_at o at done) q b) e ∙ write_write o at done b (omega arith)

pub put_put : (o b c : List ℕ) (at next : ℕ) → next ≡ at + length b → at + length (b ++ c) ≤ length o → put (put o at b) next c ≡ put o at (b ++ c)
put_put o b c at next e h =
    let s = length-append b c in
    ap (λ (w : List ℕ). put w next c) (put_fits o at b (omega arith)) ∙ put_after o b c at next e (omega arith) ∙ sym (put_fits o at (b ++ c) h)
