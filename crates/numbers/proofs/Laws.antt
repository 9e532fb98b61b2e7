-- Laws of the length size, and of a number that is written from its last byte on. Assumes nothing.
--
--   L_some, L_most                         L is 1 to 4
--   big_4, big_at                          a number of 4 bytes, of a part or where they stand
--   Back, back_start, back_next, back_end  the bytes written so far
use Prim.Native.Nat.{ℕ, zero, suc, ◌+◌, ◌-◌, ◌*◌, ◌/◌, ◌%◌, ◌≤◌, ◌<◌}
use mathlib.Core.Path.{◌≡◌, sym, ◌∙◌}
use mathlib.Core.List.{List, [], ◌∷◌, ◌++◌, append_assoc, append-nil}
use native.Mathlib.Omega.{arith}
use native.Mathlib.Numerals.{sub-one}
use native.Mathlib.Nat.{add-zero}
use lib.ListN.{length, take, drop, set}
use lib.Seq.{drop-drop, get_or-drop}
use Rattle.std.specs.List.{between}
use Rattle.std.proofs.lemmas.Slice.{between_to_end}
use borrow.Rule.Slice.PartMut.{put_mid}
use Rattle.words.specs.Bytes.{byte_at, bytes, big}
use Rattle.words.specs.Buffers.{write_at, put}
use Rattle.words.proofs.Bytes.{bytes_length}
use Rattle.words.proofs.Buffers.{write_none, back_step, put_fits}
use Rattle.numbers.specs.Sizes.{in_bytes}
use Rattle.numbers.specs.declared.LengthSize.{LengthSize}
use Rattle.numbers.specs.declared.LengthSize.TheVariants.{One, Two, Four}

pub L_some : (l : LengthSize) → 0 < in_bytes l
L_some One = omega arith
L_some Two = omega arith
L_some Four = omega arith

pub L_most : (l : LengthSize) → in_bytes l ≤ 4
L_most One = omega arith
L_most Two = omega arith
L_most Four = omega arith

pub big_4 :
    (s r : List ℕ) (p : ℕ) → r ≡ between p (length s) s →
    byte_at r 0 * 16777216 + byte_at r 1 * 65536 + byte_at r 2 * 256 + byte_at r 3 ≡ big s p 4
unfolding big
big_4 s r p e =
    let d : r ≡ drop p s = e ∙ between_to_end s p (length s) (omega arith) in
    rw (d, get_or-drop p s 0 0, get_or-drop p s 1 0, get_or-drop p s 2 0, get_or-drop p s 3 0) (omega arith)

pub big_at :
    (s : List ℕ) (p : ℕ) →
    byte_at s p * 16777216 + byte_at s (p + 1) * 65536 + byte_at s (p + 2) * 256 + byte_at s (p + 3) ≡ big s p 4
unfolding big
big_at s p = rw (add-zero p) (omega arith)

-- v in n bytes over o from p on, written down to the place p + k, with r left of v
pub record Back (o : List ℕ) (p n v k r : ℕ) (out : List ℕ) : Type 0 where
  pub done : List ℕ
  pub is : out ≡ write_at o (p + k) done
  pub split : bytes n v ≡ bytes k r ++ done

pub back_start : (o : List ℕ) (p n v : ℕ) → Back o p n v n v o
back_start o p n v = record { done = []; is = write_none o (p + n); split = sym (append-nil (bytes n v)) }

pub back_next :
    (o : List ℕ) (p n v k r : ℕ) (out : List ℕ) → 0 < k → p + (k - 1) < length o → Back o p n v k r out →
    Back o p n v (k - 1) (r / 256) (set out (p + (k - 1)) (r % 256))
unfolding bytes
back_next o p n v zero r out h l b = absurd (omega arith)
back_next o p n v (suc k) r out h l b =
    let e : suc k - 1 ≡ k = sub-one (suc k) in
    let m : p + suc k ≡ p + k + 1 = omega arith in
    rw e (record {
      done = r % 256 ∷ b.done;
      is = rw (b.is, m) (back_step o (p + k) (r % 256) b.done (omega arith));
      split = b.split ∙ append_assoc (bytes k (r / 256)) (r % 256 ∷ []) b.done;
    })

pub back_end : (o : List ℕ) (p n v k r : ℕ) (out : List ℕ) → k ≤ 0 → p + n ≤ length o → Back o p n v k r out → out ≡ put o p (bytes n v)
unfolding bytes
back_end o p n v zero r out h l b = b.is ∙ rw (add-zero p, ← b.split) (sym (put_fits o p (bytes n v) (rw (bytes_length n v) l)))
back_end o p n v (suc k) r out h l b = absurd (omega arith)

-- a slice that was copied over the part from p on
pub put_part :
    (o : List ℕ) (p : ℕ) (s new : List ℕ) → new ≡ s → p + length s ≤ length o → put_mid p (p + length s - p) o new ≡ put o p s
unfolding write_at
put_part o p s new e h =
    let n : p + length s - p ≡ length s = omega arith in
    rw (put_fits o p s h, e, n, drop-drop (length s) p o) (sym (append_assoc (take p o) s (drop (p + length s) o)))
