-- Laws of written bytes. Assumes nothing.
--
--   copy_step, copy_done                                                         a turn of a copy, and a copy that is done
--   back_step                                                                    one byte more before what was written
--   write_write                                                                  two writes, one after the other, are one
--   write_none, write_first, write_length                                        nothing written; a write at the start; the length stays
--   put_fits, put_not, put_length                                                a write that fits, one that does not; the length stays
--   put_next                                                                     a write right after what was written from the start on
--   within_room, within_not                                                      an answer with room, and without
--   refused_leaves                                                               a refusal's count is zero, and it leaves the buffer as it was
--   refuse, accept                                                               what a call did: refused, or wrote bytes that fit
--   fit_all, lacks_here, lacks_later                                             several rooms: all are enough; one is not
--   within_all_room, within_all_not, refused_leaves_all, refuse_all, accept_all  the same laws of several buffers
use Prim.Native.Nat.{ℕ, suc, ◌+◌, ◌≤◌, ◌<◌}
use mathlib.Core.Path.{◌≡◌, ap, sym, ◌∙◌}
use mathlib.Core.Bool.{true, false, true-or, or-true}
use mathlib.Core.List.{List, [], ◌∷◌, ◌++◌, map, append_assoc, append-nil}
use native.Mathlib.Nat.{add_assoc, add-zero, zero-add}
use native.Mathlib.Omega.{arith}
use native.Mathlib.Numerals.{add-one}
use borrow.Author.Tests.{le-leb, lt-leb, leb-true, le-ltb, lt-ltb}
use lib.Dec.{leb, ltb}
use lib.ListN.{length, get_or, take, drop, set, take-append-drop, length-append, length-take, length-drop}
use lib.Seq.{paste, paste-suc, length-take-le, drop-drop, take_at, drop_at, take-length, set_at, take-suc}
use Rattle.words.specs.RefusalNumbers.{output_too_long}
use Rattle.words.specs.Refusals.{Answer, refused, ok, passed, count_of}
use Rattle.words.specs.Buffers.{write_at, overwrite, put, lacks_room, within, Wrote, within_all, overwrite_all, WroteAll}
use Rattle.words.proofs.Tests.{by_bool, true_false}

pub copy_step : (o s : List ℕ) (p i : ℕ) → p + i < length o → i < length s → set (paste o p s i) (p + i) (get_or s i 0) ≡ paste o p s (i + 1)
copy_step o s p i h k = rw (add-one i) (paste-suc o p s i 0 h k)

pub copy_done : (o s : List ℕ) (p : ℕ) → paste o p s (length s) ≡ write_at o p s
unfolding write_at
copy_done o s p = rw (take-length s)

-- the byte before what was written
pub back_step : (o : List ℕ) (p a : ℕ) (b : List ℕ) → p < length o → set (write_at o (p + 1) b) p a ≡ write_at o p (a ∷ b)
unfolding write_at
back_step o p a b h =
    let n : length (take p o) ≡ p = length-take-le p o (omega arith) in
    let f : take (p + 1) o ≡ take p o ++ (get_or o p 0 ∷ []) = rw (add-one p) (take-suc o p 0 h) in
    let m : p + 1 + length b ≡ p + suc (length b) = omega arith in
    rw (f, append_assoc (take p o ++ (get_or o p 0 ∷ [])) b (drop (p + 1 + length b) o), append_assoc (take p o) (get_or o p 0 ∷ []) (b ++ drop (p + 1 + length b) o), set_at (take p o) (get_or o p 0) (b ++ drop (p + 1 + length b) o) a p n, m, append_assoc (take p o) (a ∷ b) (drop (p + suc (length b)) o))

pub write_write : (o : List ℕ) (p : ℕ) (b c : List ℕ) → p + length b ≤ length o → write_at (write_at o p b) (p + length b) c ≡ write_at o p (b ++ c)
unfolding write_at
write_write o p b c h =
    let n : length (take p o) ≡ p = length-take-le p o (omega arith) in
    let m : length (take p o ++ b) ≡ p + length b = length-append (take p o) b ∙ ap (λ (x : ℕ). x + length b) n in
    let rest = drop (p + length b) o in
    let front : take (p + length b) (take p o ++ b ++ rest) ≡ take p o ++ b = take_at (take p o ++ b) rest (p + length b) m in
    let back : drop (p + length b + length c) (take p o ++ b ++ rest) ≡ drop (p + (length b + length c)) o =
    sym (drop-drop (length c) (p + length b) (take p o ++ b ++ rest)) ∙ ap (drop (length c)) (drop_at (take p o ++ b) rest (p + length b) m)
    ∙ drop-drop (length c) (p + length b) o ∙ ap (λ (x : ℕ). drop x o) (add_assoc p (length b) (length c)) in
    rw (front, back, length-append b c, append_assoc (take p o) b c)

pub write_none : (o : List ℕ) (p : ℕ) → o ≡ write_at o p []
unfolding write_at
write_none o p = rw (add-zero p, append-nil (take p o)) (sym (take-append-drop p o))

pub write_first : (o b : List ℕ) → write_at o 0 b ≡ overwrite o b
unfolding write_at overwrite
write_first o b = rw (zero-add (length b))

pub write_length : (o : List ℕ) (p : ℕ) (b : List ℕ) → p + length b ≤ length o → length (write_at o p b) ≡ length o
unfolding write_at
write_length o p b h = simp (length-append, length-take, length-drop) (omega arith)

module _ (o : List ℕ) (p : ℕ) (b : List ℕ) where
  pub put_fits : p + length b ≤ length o → put o p b ≡ write_at o p b
  unfolding put
  put_fits h = rw (le-leb (p + length b) (length o) h)

  pub put_not : length o < p + length b → put o p b ≡ o
  unfolding put
  put_not h = rw (lt-leb (p + length b) (length o) h)

  pub put_length : length (put o p b) ≡ length o
  unfolding put
  put_length = by_bool (leb (p + length b) (length o))
      (λ t. rw t (write_length o p b (leb-true _ _ t)))
      (λ t. rw t)

pub put_next : (o b c : List ℕ) (p : ℕ) → p ≡ length b → length b + length c ≤ length o → put (write_at o 0 b) p c ≡ write_at o 0 (b ++ c)
put_next o b c p e h =
    let n = write_length o 0 b (omega arith) in
    let m : p ≡ 0 + length b = omega arith in
    put_fits (write_at o 0 b) p c (omega arith) ∙ ap (λ (q : ℕ). write_at (write_at o 0 b) q c) m ∙ write_write o 0 b c (omega arith)

pub within_room : (room : ℕ) (out : List ℕ) → length out ≤ room → within room (ok out) ≡ ok out
within_room room out h = rw (le-ltb room (length out) h)

pub within_not : (room : ℕ) (out : List ℕ) → room < length out → within room (ok out) ≡ refused output_too_long 0
within_not room out h = rw (lt-ltb room (length out) h)

-- demand 1: after a refusal the count is zero, and the buffer holds what it held before
pub refused_leaves : {o o' : List ℕ} {r : Answer ℕ} {a : Answer (List ℕ)} → Wrote o o' r a → passed r ≡ false → (count_of r ≡ 0) × (o' ≡ o)
refused_leaves {r = r} {a = refused n p} w f = (rw w.answer, w.buffer)
refused_leaves {r = r} {a = ok out} w f = true_false (passed r) (rw w.answer) f

-- what a call did
pub refuse : {o : List ℕ} {n p : ℕ} {a : Answer (List ℕ)} → a ≡ refused n p → Wrote o o (refused n p) a
refuse e = record { answer = rw e; buffer = rw e }

pub accept : {o o' : List ℕ} {out : List ℕ} {a : Answer (List ℕ)} → a ≡ ok out → o' ≡ overwrite o out → Wrote o o' (ok (length out)) a
accept e f = record { answer = rw e; buffer = rw e f }

-- several buffers
module _ (room : ℕ) (rooms out : List ℕ) (outs : List (List ℕ)) where
  pub fit_all : length out ≤ room → lacks_room rooms outs ≡ false → lacks_room (room ∷ rooms) (out ∷ outs) ≡ false
  fit_all h g = rw g (le-ltb room (length out) h)

  pub lacks_here : room < length out → lacks_room (room ∷ rooms) (out ∷ outs) ≡ true
  lacks_here h = rw (lt-ltb room (length out) h) (or-true (lacks_room rooms outs))

  pub lacks_later : lacks_room rooms outs ≡ true → lacks_room (room ∷ rooms) (out ∷ outs) ≡ true
  lacks_later g = rw g (true-or (ltb room (length out)))

pub within_all_room : (rooms : List ℕ) (outs : List (List ℕ)) → lacks_room rooms outs ≡ false → within_all rooms (ok outs) ≡ ok outs
within_all_room rooms outs h = rw h

pub within_all_not : (rooms : List ℕ) (outs : List (List ℕ)) → lacks_room rooms outs ≡ true → within_all rooms (ok outs) ≡ refused output_too_long 0
within_all_not rooms outs h = rw h

pub refused_leaves_all : {os os' : List (List ℕ)} {r : Answer (List ℕ)} {a : Answer (List (List ℕ))} → WroteAll os os' r a → passed r ≡ false → os' ≡ os
refused_leaves_all {r = r} {a = refused n p} w f = w.buffers
refused_leaves_all {r = r} {a = ok outs} w f = true_false (passed r) (rw w.answers) f

pub refuse_all : {os : List (List ℕ)} {n p : ℕ} {a : Answer (List (List ℕ))} → a ≡ refused n p → WroteAll os os (refused n p) a
refuse_all e = record { answers = rw e; buffers = rw e }

pub accept_all : {os os' outs : List (List ℕ)} {a : Answer (List (List ℕ))} → a ≡ ok outs → os' ≡ overwrite_all os outs → WroteAll os os' (ok (map length outs)) a
accept_all e f = record { answers = rw e; buffers = rw e f }
