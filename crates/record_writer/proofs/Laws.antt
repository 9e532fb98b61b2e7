-- Laws of the writer. Assumes nothing.
--
--   bytes_length                   how long a record is
--   front_written, record_written  the writes of a record, one after the other
--   write_misfit, write_fits       the answer where the fields fit, and where not
--   room_lacks, room_fits          whether there is room
use Rattle.std.specs.Prelude.{None, Some}
use Prim.Native.Nat.{ℕ, ◌+◌, ◌≤◌, ◌<◌}
use mathlib.Core.Path.{◌≡◌, refl, ap, sym, ◌∙◌}
use mathlib.Core.Bool.{true, false}
use mathlib.Core.List.{List, [], ◌∷◌, ◌++◌, append_assoc}
use native.Mathlib.Omega.{arith}
use borrow.Author.Tests.{ltb-true, ltb-false}
use lib.ListN.{length, length-append}
use Rattle.words.specs.Tests.{◌<?◌}
use Rattle.words.specs.RefusalNumbers.{fields_fit_no_record}
use Rattle.words.specs.Refusals.{refused, ok}
use Rattle.words.specs.Buffers.{write_at, put, overwrite}
use Rattle.words.proofs.Tests.{by_bool}
use Rattle.words.proofs.Buffers.{put_fits, put_next, write_write, write_first}
use Rattle.numbers.specs.declared.Kind.{Kind}
use Rattle.record_rules.specs.Trailers.{ending}
use Rattle.record_rules.specs.Fields.{head_bytes, record_bytes, fits}
use Rattle.record_rules.specs.declared.Fields.{Fields}
use Rattle.record_writer.specs.Write.{write_as}
use Rattle.record_writer.specs.Steps.{room_for}

pub bytes_length : (k : Kind) (f : Fields) (a b x : List ℕ) → length (record_bytes k f a b x) ≡ 7 + length (ending f.trailer).head + length a + length b + length x
unfolding record_bytes
bytes_length k f a b x = simp (length-append) (omega arith)

-- the head, the sequence sets and the number of picture sets
abbrev pub front : Kind → Fields → List ℕ → List ℕ
front k f a = head_bytes k f ++ a ++ (f.pictures ∷ [])

front_length : (k : Kind) (f : Fields) (a : List ℕ) → length (front k f a) ≡ 6 + length a + 1
front_length k f a = simp (length-append) (omega arith)

pub front_written : (o : List ℕ) (k : Kind) (f : Fields) (a : List ℕ) → 6 + length a + 1 ≤ length o → put (put (put o 0 (head_bytes k f)) 6 a) (6 + length a) (f.pictures ∷ []) ≡ write_at o 0 (front k f a)
front_written o k f a h =
    rw (put_fits o 0 (head_bytes k f) (omega arith), put_next o (head_bytes k f) a 6 refl (omega arith))
    (put_next o (head_bytes k f ++ a) (f.pictures ∷ []) (6 + length a) (sym (length-append (head_bytes k f) a)) (simp (length-append) (omega arith)))

bytes_joined : (k : Kind) (f : Fields) (a b x : List ℕ) → ((front k f a ++ b) ++ (ending f.trailer).head) ++ x ≡ record_bytes k f a b x
unfolding record_bytes
bytes_joined k f a b x = simp (append_assoc)

pub record_written :
    (o : List ℕ) (k : Kind) (f : Fields) (a b x : List ℕ) → length (record_bytes k f a b x) ≤ length o →
    put (write_at (put (write_at o 0 (front k f a)) (6 + length a + 1) b) (6 + length a + 1 + length b) (ending f.trailer).head) (6 + length a + 1 + length b + length (ending f.trailer).head) x ≡ overwrite o (record_bytes k f a b x)
record_written o k f a b x h =
    let n = bytes_length k f a b x in
    let l = front_length k f a in
    let m = length-append (front k f a) b in
    let r = length-append (front k f a ++ b) (ending f.trailer).head in
    let e : 6 + length a + 1 + length b ≡ 0 + length (front k f a ++ b) = omega arith in
    let d : 6 + length a + 1 + length b + length (ending f.trailer).head ≡ length ((front k f a ++ b) ++ (ending f.trailer).head) = omega arith in
    ap (λ (w : List ℕ). put (write_at w (6 + length a + 1 + length b) (ending f.trailer).head) (6 + length a + 1 + length b + length (ending f.trailer).head) x) (put_next o (front k f a) b (6 + length a + 1) (sym l) (omega arith))
    ∙ ap (λ (p : ℕ). put (write_at (write_at o 0 (front k f a ++ b)) p (ending f.trailer).head) (6 + length a + 1 + length b + length (ending f.trailer).head) x) e
    ∙ ap (λ (w : List ℕ). put w (6 + length a + 1 + length b + length (ending f.trailer).head) x) (write_write o 0 (front k f a ++ b) (ending f.trailer).head (omega arith))
    ∙ put_next o ((front k f a ++ b) ++ (ending f.trailer).head) x (6 + length a + 1 + length b + length (ending f.trailer).head) d (omega arith)
    ∙ ap (λ (w : List ℕ). write_at o 0 w) (bytes_joined k f a b x) ∙ write_first o (record_bytes k f a b x)

module _ (k : Kind) (f : Fields) (a b x : List ℕ) where
  pub write_misfit : fits k f a b x ≡ false → write_as k f a b x ≡ refused fields_fit_no_record 0
  unfolding write_as
  write_misfit e = rw e

  pub write_fits : fits k f a b x ≡ true → write_as k f a b x ≡ ok (record_bytes k f a b x)
  unfolding write_as
  write_fits e = rw e

pub room_lacks : (n room : ℕ) → room_for n room ≡ None → room < n
room_lacks n room e =
    by_bool (room <? n)
    (λ t. ltb-true _ _ t)
    (λ t. let z : Some n ≡ None = rw t at e in let y : ◌≡◌ {A = ℕ} 0 1 = cc in absurd (omega arith))

pub room_fits : (n room m : ℕ) → room_for n room ≡ Some m → (n ≤ room) × (m ≡ n)
room_fits n room m e =
    by_bool (room <? n)
    (λ t. let z : None ≡ Some m = rw t at e in let y : ◌≡◌ {A = ℕ} 0 1 = cc in absurd (omega arith))
    (λ t. let z : Some n ≡ Some m = rw t at e in (ltb-false _ _ t, cc))
