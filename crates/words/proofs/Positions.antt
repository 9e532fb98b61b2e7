-- Lists by position: what stands in s from a place p on is `drop p s`. Assumes nothing.
--
--     at_cons      drop p s ≡ y ∷ r: y stands at p, and r from p + 1 on
--     at_append    drop p s ≡ b ++ r: r stands from p + length b on
--     at_inside    drop p s ≡ b ++ r: what stands in b at i stands in s at p + i
--     part_here    drop p s ≡ b ++ r: b is the part at p
--     split_one    drop p s is the byte at p, and what stands from p + 1 on
--     split_part   drop a s is the part from a to b, and what stands from b on
use Prim.Native.Nat.{ℕ, suc, ◌+◌, ◌-◌, ◌≤◌, ◌<◌}
use mathlib.Core.Path.{◌≡◌, refl, ap, sym, ◌∙◌}
use mathlib.Core.List.{List, [], ◌∷◌, ◌++◌}
use native.Mathlib.Omega.{arith}
use native.Mathlib.Numerals.{add-one}
use native.Mathlib.Nat.{add-zero}
use lib.ListN.{length, get_or, take, drop, take-append-drop, length-append, length-drop, get_or-append}
use lib.Seq.{drop-cons, drop-drop, get_or-drop, drop-append_seam, take-append_seam, length-take-le, take_all}
use Rattle.words.specs.Bytes.{byte_at, part}

pub record Cons (s : List ℕ) (p y : ℕ) (r : List ℕ) : Type 0 where
  pub there : p < length s
  pub byte : byte_at s p ≡ y
  pub next : drop (p + 1) s ≡ r

pub at_cons : (s : List ℕ) (p y : ℕ) (r : List ℕ) → drop p s ≡ y ∷ r → Cons s p y r
at_cons s p y r e =
    let n : length s - p ≡ suc (length r) = sym (length-drop p s) ∙ ap length e in
    record {
      there = omega arith;
      byte = ap (byte_at s) (sym (add-zero p)) ∙ sym (get_or-drop p s 0 0) ∙ ap (λ (l : List ℕ). get_or l 0 0) e;
      next = sym (drop-drop 1 p s) ∙ ap (drop 1) e;
    }

pub record Append (s : List ℕ) (p : ℕ) (b r : List ℕ) : Type 0 where
  pub within : p + length b ≤ length s
  pub next : drop (p + length b) s ≡ r

pub at_append : (s : List ℕ) (p : ℕ) (b r : List ℕ) → p ≤ length s → drop p s ≡ b ++ r → Append s p b r
at_append s p b r h e =
    let n : length s - p ≡ length b + length r = sym (length-drop p s) ∙ ap length e ∙ length-append b r in
    record { within = omega arith; next = sym (drop-drop (length b) p s) ∙ ap (drop (length b)) e ∙ drop-append_seam b r }

pub at_inside : (s : List ℕ) (p : ℕ) (b r : List ℕ) (i : ℕ) → drop p s ≡ b ++ r → i < length b → byte_at s (p + i) ≡ byte_at b i
at_inside s p b r i e h = sym (get_or-drop p s i 0) ∙ ap (λ (l : List ℕ). get_or l i 0) e ∙ get_or-append b r 0 i h

pub part_here : (s : List ℕ) (p : ℕ) (b r : List ℕ) → drop p s ≡ b ++ r → part s p (length b) ≡ b
part_here s p b r e = ap (take (length b)) e ∙ take-append_seam b r

pub at_end : (s : List ℕ) (p : ℕ) → p ≤ length s → drop p s ≡ [] → p ≡ length s
at_end s p h e = let n : length s - p ≡ 0 = sym (length-drop p s) ∙ ap length e in omega arith

pub split_one : (s : List ℕ) (p : ℕ) → p < length s → byte_at s p ∷ drop (p + 1) s ≡ drop p s
split_one s p h = rw (add-one p) (sym (drop-cons s p 0 h))

pub split_part : (s : List ℕ) (a b : ℕ) → a ≤ b → part s a (b - a) ++ drop b s ≡ drop a s
split_part s a b h =
    let e : b ≡ a + (b - a) = omega arith in
    ap (λ (l : List ℕ). part s a (b - a) ++ l) (ap (λ (n : ℕ). drop n s) e ∙ sym (drop-drop (b - a) a s)) ∙ take-append-drop (b - a) (drop a s)

pub part_length : (s : List ℕ) (a n : ℕ) → a + n ≤ length s → length (part s a n) ≡ n
part_length s a n h = length-take-le n (drop a s) (rw (length-drop a s) (omega arith))

pub split_next : (s : List ℕ) (p q : ℕ) → q ≡ p + 1 → p < length s → byte_at s p ∷ drop q s ≡ drop p s
split_next s p q e h = rw e (split_one s p h)

-- all from a on
pub part_rest : (s : List ℕ) (a : ℕ) → part s a (length s - a) ≡ drop a s
part_rest s a = take_all (length s - a) (drop a s) (rw (length-drop a s) (omega arith))

-- a list by its first six, and four at a position
pub six : (s : List ℕ) → 5 < length s → byte_at s 0 ∷ byte_at s 1 ∷ byte_at s 2 ∷ byte_at s 3 ∷ byte_at s 4 ∷ byte_at s 5 ∷ drop 6 s ≡ s
six [] h = absurd (omega arith)
six (a ∷ []) h = absurd (omega arith)
six (a ∷ b ∷ []) h = absurd (omega arith)
six (a ∷ b ∷ c ∷ []) h = absurd (omega arith)
six (a ∷ b ∷ c ∷ d ∷ []) h = absurd (omega arith)
six (a ∷ b ∷ c ∷ d ∷ e ∷ []) h = absurd (omega arith)
six (a ∷ b ∷ c ∷ d ∷ e ∷ f ∷ r) h = refl

pub four : (s : List ℕ) (q : ℕ) → q + 3 < length s → byte_at s q ∷ byte_at s (q + 1) ∷ byte_at s (q + 2) ∷ byte_at s (q + 3) ∷ drop (q + 4) s ≡ drop q s
four s q h =
    rw (
      split_next s (q + 3) (q + 4) (omega arith) h,
      split_next s (q + 2) (q + 3) (omega arith) (omega arith),
      split_next s (q + 1) (q + 2) (omega arith) (omega arith),
    ) (split_next s q (q + 1) refl (omega arith))

-- four bytes that stand at q
pub record Four (s : List ℕ) (q a b c d : ℕ) (r : List ℕ) : Type 0 where
  pub there : q + 3 < length s
  pub first : byte_at s q ≡ a
  pub second : byte_at s (q + 1) ≡ b
  pub third : byte_at s (q + 2) ≡ c
  pub fourth : byte_at s (q + 3) ≡ d
  pub next : drop (q + 4) s ≡ r

pub at_four : (s : List ℕ) (q a b c d : ℕ) (r : List ℕ) → drop q s ≡ a ∷ b ∷ c ∷ d ∷ r → Four s q a b c d r
at_four s q a b c d r e =
    let n : length s - q ≡ suc (suc (suc (suc (length r)))) = sym (length-drop q s) ∙ ap length e in
    record {
      there = omega arith;
      first = (at_cons s q a _ e).byte;
      second = sym (get_or-drop q s 1 0) ∙ ap (λ (l : List ℕ). get_or l 1 0) e;
      third = sym (get_or-drop q s 2 0) ∙ ap (λ (l : List ℕ). get_or l 2 0) e;
      fourth = sym (get_or-drop q s 3 0) ∙ ap (λ (l : List ℕ). get_or l 3 0) e;
      next = sym (drop-drop 4 q s) ∙ ap (drop 4) e;
    }
