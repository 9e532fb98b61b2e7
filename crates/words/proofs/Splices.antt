-- Laws of `part`, `splice` and `cuts`. Assumes nothing.
--
--   part_ext                          parts of two lists are equal where the lists are
--   splice_length                     same length
--   splice_before, splice_after       the bytes before and after what was put in
--   splice_part                       what was put in
--   cuts_splice                       cuts of a list in which one cut is replaced
use Prim.Native.Nat.{ℕ, zero, suc, ◌+◌, ◌-◌, ◌≤◌, ◌<◌}
use mathlib.Core.Path.{◌≡◌, refl, ap₂, sym, ◌∙◌, subst}
use mathlib.Core.List.{List, [], ◌∷◌, ◌++◌}
use native.Mathlib.Omega.{arith}
use lib.ListN.{length, get_or, take, drop, set, length-append, length-take, length-drop, get_or-append}
use lib.Seq.{length-take-le, drop_at, take-append_seam, get_or-take, get_or-drop, get_or-append-add, ext_get_or}
use Rattle.words.specs.Bytes.{part, splice, cuts}
use Rattle.words.specs.Lists.{sum}
use Rattle.words.proofs.Positions.{part_length}

module _ (s : List ℕ) where
  part_at : (a n i : ℕ) → i < n → get_or (part s a n) i 0 ≡ get_or s (a + i) 0
  part_at a n i h = get_or-take n (drop a s) i 0 h ∙ get_or-drop a s i 0

pub part_ext : (s t : List ℕ) (a n : ℕ) → length s ≡ length t → ((q : ℕ) → a ≤ q → q < a + n → get_or s q 0 ≡ get_or t q 0) → part s a n ≡ part t a n
part_ext s t a n e h = ext_get_or 0 (part s a n) (part t a n) (simp (length-take, length-drop, e)) (λ i k. let l = simp (length-take, length-drop) at k in
    let j : i < n = omega arith in
    part_at s a n i j ∙ h (a + i) (omega arith) (omega arith) ∙ sym (part_at t a n i j))

module _ (s : List ℕ) (a : ℕ) (new : List ℕ) (fits : a + length new ≤ length s) where
  head_length : length (take a s) ≡ a
  head_length = length-take-le a s (omega arith)

  pub splice_length : length (splice s a new) ≡ length s
  splice_length = simp (length-append, length-drop, head_length) (omega arith)

  pub splice_before : (q : ℕ) → q < a → get_or (splice s a new) q 0 ≡ get_or s q 0
  splice_before q h = get_or-append (take a s) _ 0 q (rw head_length h) ∙ get_or-take a s q 0 h

  after_at : (i : ℕ) → get_or (splice s a new) (a + length new + i) 0 ≡ get_or s (a + length new + i) 0
  after_at i = subst (λ (k : ℕ). get_or (splice s a new) k 0 ≡ get_or s (a + length new + i) 0)
      (let e = head_length in let z : length (take a s) + (length new + i) ≡ a + length new + i = omega arith in z)
      (get_or-append-add (take a s) (new ++ drop (a + length new) s) (length new + i) 0 ∙ get_or-append-add new (drop (a + length new) s) i 0 ∙ get_or-drop (a + length new) s i 0)

  pub splice_after : (q : ℕ) → a + length new ≤ q → get_or (splice s a new) q 0 ≡ get_or s q 0
  splice_after q h = subst (λ (k : ℕ). get_or (splice s a new) k 0 ≡ get_or s k 0) (let z : a + length new + (q - (a + length new)) ≡ q = omega arith in z) (after_at (q - (a + length new)))

  pub splice_part : part (splice s a new) a (length new) ≡ new
  splice_part = rw (drop_at (take a s) (new ++ drop (a + length new) s) a head_length) (take-append_seam new _)

pub take_sum : (ns : List ℕ) (m : ℕ) → m < length ns → sum (take m ns) + get_or ns m 0 ≤ sum ns
unfolding sum
take_sum [] m h = absurd (omega arith)
take_sum (k ∷ ns) zero h = omega arith
take_sum (k ∷ ns) (suc m) h = let b = take_sum ns m (omega arith) in omega arith

pub cuts_ext : (s t : List ℕ) (ns : List ℕ) (a : ℕ) → length s ≡ length t → ((q : ℕ) → a ≤ q → q < a + sum ns → get_or s q 0 ≡ get_or t q 0) → cuts s ns a ≡ cuts t ns a
unfolding cuts sum
cuts_ext s t [] a e h = refl
cuts_ext s t (k ∷ ns) a e h = ap₂ ◌∷◌ (part_ext s t a k e (λ q l u. h q l (omega arith))) (cuts_ext s t ns (a + k) e (λ q l u. h q (omega arith) (omega arith)))

pub cuts_lengths : (s ns : List ℕ) (a m : ℕ) → a + sum ns ≤ length s → m < length ns → length (get_or (cuts s ns a) m []) ≡ get_or ns m 0
unfolding cuts sum
cuts_lengths s [] a m h l = absurd (omega arith)
cuts_lengths s (k ∷ ns) a zero h l = part_length s a k (omega arith)
cuts_lengths s (k ∷ ns) a (suc m) h l = cuts_lengths s ns (a + k) m (omega arith) (omega arith)

pub cuts_splice : (s new ns : List ℕ) (a m at : ℕ) → at ≡ a + sum (take m ns) → a + sum ns ≤ length s → m < length ns → length new ≡ get_or ns m 0 → cuts (splice s at new) ns a ≡ set (cuts s ns a) m new
unfolding cuts sum
cuts_splice s new [] a m at e h l g = absurd (omega arith)
cuts_splice s new (k ∷ ns) a zero at e h l g =
    let fits : at + length new ≤ length s = omega arith in
    let c : at ≡ a = omega arith in
    ap₂ ◌∷◌
    (rw (← c, ← g) (splice_part s at new fits))
    (cuts_ext _ s ns (a + k) (splice_length s at new fits) (λ q u v. splice_after s at new fits q (omega arith)))
cuts_splice s new (k ∷ ns) a (suc m) at e h l g =
    let b = take_sum ns m (omega arith) in
    let fits : at + length new ≤ length s = omega arith in
    ap₂ ◌∷◌
    (part_ext _ s a k (splice_length s at new fits) (λ q u v. splice_before s at new fits q (omega arith)))
    (cuts_splice s new ns (a + k) m at (omega arith) (omega arith) (omega arith) g)
