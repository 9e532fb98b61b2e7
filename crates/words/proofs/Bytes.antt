-- Laws of numbers in bytes, for any width n. Assumes nothing.
--
--   big_more, pow_more                         one byte more
--   big_below                                  n bytes hold a number below 256 ^ n
--   pow_small                                  fewer than 8 bytes
--   big_inside                                 a number in a part is that number in the whole
--   bytes_length                               v in n bytes is n bytes
--   big_bytes                                  a number that was written is read back
--   bytes_big                                  a number that was read is written back
--   Held, held_bytes, bytes_held, held_append  lists that hold bytes, element by element
use Prim.Native.Nat.{ℕ, zero, suc, ◌+◌, ◌*◌, ◌/◌, ◌%◌, ◌^◌, ◌≤◌, ◌<◌}
use mathlib.Core.Path.{◌≡◌, refl, ap, ap₂, ◌∙◌}
use mathlib.Core.List.{List, [], ◌∷◌, ◌++◌, append_assoc}
use native.Mathlib.Omega.{arith}
use native.Mathlib.Nat.{pow-suc, pow-zero, pow-le-pow_right, div-add-mod', mul-add-div_right, mul-add-mod_self_right, div-eq_of_lt, mod-eq_of_lt, div-lt_iff_lt-mul, add-zero, zero-add}
use native.Mathlib.Numerals.{add-one}
use lib.Dec.{lit<}
use lib.ListN.{length, drop, length-append, length-drop}
use lib.Seq.{get_or_at, get_or-drop, take-suc}
use Rattle.words.specs.Bytes.{Bytes, byte_at, big, bytes, part}
use Rattle.words.proofs.Positions.{at_inside}

pub big_more : (s : List ℕ) (p n : ℕ) → big s p (n + 1) ≡ big s p n * 256 + byte_at s (p + n)
unfolding big
big_more s p n = ap (big s p) (add-one n)

pub pow_more : (n : ℕ) → 256 ^ (n + 1) ≡ 256 ^ n * 256
pow_more n = ap (λ (k : ℕ). 256 ^ k) (add-one n) ∙ pow-suc 256 n

pub big_below : (s : List ℕ) (p n : ℕ) → Bytes s → big s p n < 256 ^ n
unfolding big
big_below s p zero g = rw (pow-zero 256) (lit< tt)
big_below s p (suc n) g =
    let below = big_below s p n g in
    let b = g (p + n) in
    rw (pow-suc 256 n) (omega arith)

-- below eight bytes
pub pow_small : (n : ℕ) → n < 8 → 256 ^ n ≤ 72057594037927936
pow_small n h = pow-le-pow_right (lit< tt) {j = 7} (omega arith)

pub big_inside : (s : List ℕ) (p : ℕ) (b r : List ℕ) → drop p s ≡ b ++ r → (q n : ℕ) → q + n ≤ length b → big s (p + q) n ≡ big b q n
unfolding big
big_inside s p b r e q zero h = refl
big_inside s p b r e q (suc n) h =
    let a : p + q + n ≡ p + (q + n) = omega arith in
    ap₂ (λ (x y : ℕ). x * 256 + y) (big_inside s p b r e q n (omega arith)) (ap (byte_at s) a ∙ at_inside s p b r (q + n) e (omega arith))

pub bytes_length : (n v : ℕ) → length (bytes n v) ≡ n
unfolding bytes
bytes_length zero v = refl
bytes_length (suc n) v = length-append (bytes n (v / 256)) (v % 256 ∷ []) ∙ (let e = bytes_length n (v / 256) in omega arith)

pub big_bytes : (n v : ℕ) (r : List ℕ) → v < 256 ^ n → big (bytes n v ++ r) 0 n ≡ v
unfolding big bytes
big_bytes zero v r h = let z = rw (pow-zero 256) at h in omega arith
big_bytes (suc n) v r h =
    let z : v < 256 ^ n * 256 = rw (pow-suc 256 n) at h in
    let l = bytes_length n (v / 256) in
    let a : bytes (suc n) v ++ r ≡ bytes n (v / 256) ++ v % 256 ∷ r = append_assoc (bytes n (v / 256)) (v % 256 ∷ []) r in
    let b : big (bytes (suc n) v ++ r) 0 n ≡ v / 256 = ap (λ (s : List ℕ). big s 0 n) a ∙ big_bytes n (v / 256) (v % 256 ∷ r) ((div-lt_iff_lt-mul (lit< tt)).1 z) in
    let c : byte_at (bytes (suc n) v ++ r) (0 + n) ≡ v % 256 = ap₂ byte_at a (zero-add n) ∙ get_or_at (bytes n (v / 256)) (v % 256) r 0 n l in
    ap₂ (λ (x y : ℕ). x * 256 + y) b c ∙ div-add-mod' v 256

pub bytes_big : (s : List ℕ) (p n : ℕ) → Bytes s → p + n ≤ length s → bytes n (big s p n) ≡ part s p n
unfolding big bytes
bytes_big s p zero g h = refl
bytes_big s p (suc n) g h =
    let b = g (p + n) in
    let l : n < length (drop p s) = rw (length-drop p s) (omega arith) in
    let d : (big s p n * 256 + byte_at s (p + n)) / 256 ≡ big s p n = mul-add-div_right (lit< tt) (big s p n) (byte_at s (p + n)) ∙ ap (λ (x : ℕ). big s p n + x) (div-eq_of_lt b) ∙ add-zero (big s p n) in
    let m : (big s p n * 256 + byte_at s (p + n)) % 256 ≡ byte_at s (p + n) = mul-add-mod_self_right (big s p n) 256 (byte_at s (p + n)) ∙ mod-eq_of_lt b in
    rw (d, m, bytes_big s p n g (omega arith), take-suc (drop p s) n 0 l, get_or-drop p s n 0)

-- a list that holds bytes, element by element
abbrev pub Held : List ℕ → Type 0
Held [] = Unit {0}
Held (y ∷ s) = (y < 256) × Held s

pub held_bytes : (s : List ℕ) → Held s → Bytes s
held_bytes [] h i = lit< tt
held_bytes (y ∷ s) h zero = h.0
held_bytes (y ∷ s) h (suc i) = held_bytes s h.1 i

pub bytes_held : (s : List ℕ) → Bytes s → Held s
bytes_held [] g = tt
bytes_held (y ∷ s) g = (g 0, bytes_held s (λ i. g (suc i)))

pub held_append : (a b : List ℕ) → Held a → Held b → Held (a ++ b)
held_append [] b g h = h
held_append (y ∷ a) b g h = (g.0, held_append a b g.1 h)
