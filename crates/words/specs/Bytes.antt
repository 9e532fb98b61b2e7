-- Numbers in bytes, and parts of a list of bytes. A byte past the end reads as 0.
--
--   Bytes s         s holds bytes
--   byte_at s p     the byte at p
--   big s p n       the big-endian number of n bytes at p
--   word_at s p n   the same, where it fits a word: 0 for more than 8 bytes
--   bytes n v       v in n bytes, big-endian
--   largest         the largest number of 8 bytes
--   part s a n      the n elements from a on
--   splice s a new  s with the elements from a on replaced by new
--   cuts s ns a     the parts of lengths ns, one after the other from a on
use Rattle.std.specs.Prelude.{ℕ, zero, suc, ◌+◌, ◌*◌, ◌/◌, ◌%◌, ◌<◌, List, [], ◌∷◌, ◌++◌, length, get_or, take, drop}
use Rattle.words.specs.Tests.{◌≤?◌, pick}

abbrev pub byte_at : List ℕ → ℕ → ℕ
byte_at s p = get_or s p 0

abbrev pub Bytes : List ℕ → Type 0
Bytes s = (i : ℕ) → byte_at s i < 256

unfoldable pub big : List ℕ → ℕ → ℕ → ℕ
big s p zero = 0
big s p (suc n) = big s p n * 256 + byte_at s (p + n)

abbrev pub word_at : List ℕ → ℕ → ℕ → ℕ
word_at s p n = pick (n ≤? 8) (big s p n) 0

abbrev pub largest : ℕ
largest = 18446744073709551615

unfoldable pub bytes : ℕ → ℕ → List ℕ
bytes zero v = []
bytes (suc n) v = bytes n (v / 256) ++ (v % 256 ∷ [])

module _ {A : Type 0} where
  abbrev pub part : List A → ℕ → ℕ → List A
  part s a n = take n (drop a s)

  abbrev pub splice : List A → ℕ → List A → List A
  splice s a new = take a s ++ (new ++ drop (a + length new) s)

  unfoldable pub cuts : List A → List ℕ → ℕ → List (List A)
  cuts s [] a = []
  cuts s (n ∷ ns) a = part s a n ∷ cuts s ns (a + n)
