-- Bytes written over lent buffers. Where they fit, a buffer's length stays.
--
--   write_at o p b                                 b over o from p on
--   overwrite o b                                  b over the start of o
--   put o p b                                      b over o from p on if it fits there, else o
--   room_verdict rooms outs                        29 at 0 where an output is longer than its room
--   within room a                                  the answer a, but 29 at 0 where its bytes are more than the room
--   counted a                                      the number of bytes of an answer
--   leaves o a                                     what an answer leaves in o: o itself after a refusal, else its bytes over the start
--   Wrote o o' r a                                 a call that answered r and turned o into o' did what the answer a says
--   within_all, counted_all, leaves_all, WroteAll  the same of several buffers: all stay as they were where one lacks room
use Rattle.std.specs.Prelude.{ℕ, ◌+◌, ◌≡◌, Bool, false, ◌||◌, List, [], ◌∷◌, ◌++◌, map, length, take, drop}
use Rattle.words.specs.Tests.{◌<?◌, ◌≤?◌, pick}
use Rattle.words.specs.RefusalNumbers.{output_too_long}
use Rattle.words.specs.Refusals.{◌if◌, Answer, refused, ok, Verdict, ◌at_place◌, ◌and_then◌}

unfoldable pub write_at : List ℕ → ℕ → List ℕ → List ℕ
write_at o p b = take p o ++ b ++ drop (p + length b) o

unfoldable pub overwrite : List ℕ → List ℕ → List ℕ
overwrite o b = b ++ drop (length b) o

unfoldable pub put : List ℕ → ℕ → List ℕ → List ℕ
put o p b = pick (p + length b ≤? length o) (write_at o p b) o

-- 29 at 0: one of the outputs is longer than the room lent for it
abbrev pub lacks_room : List ℕ → List (List ℕ) → Bool
lacks_room [] outs = false
lacks_room (room ∷ rooms) [] = false
lacks_room (room ∷ rooms) (out ∷ outs) = lacks_room rooms outs || (room <? length out)

abbrev pub room_verdict : List ℕ → List (List ℕ) → Verdict
room_verdict rooms outs = (output_too_long if lacks_room rooms outs) at_place 0

-- one lent buffer
abbrev pub within : ℕ → Answer (List ℕ) → Answer (List ℕ)
within room (refused n p) = refused n p
within room (ok out) = room_verdict (room ∷ []) (out ∷ []) and_then ok out

abbrev pub counted : Answer (List ℕ) → Answer ℕ
counted (refused n p) = refused n p
counted (ok out) = ok (length out)

abbrev pub leaves : List ℕ → Answer (List ℕ) → List ℕ
leaves o (refused n p) = o
leaves o (ok out) = overwrite o out

pub record Wrote (o o' : List ℕ) (r : Answer ℕ) (a : Answer (List ℕ)) : Type 0 where
  pub answer : r ≡ counted a
  pub buffer : o' ≡ leaves o a

-- several: an output for each, or none for any
abbrev pub within_all : List ℕ → Answer (List (List ℕ)) → Answer (List (List ℕ))
within_all rooms (refused n p) = refused n p
within_all rooms (ok outs) = room_verdict rooms outs and_then ok outs

abbrev pub counted_all : Answer (List (List ℕ)) → Answer (List ℕ)
counted_all (refused n p) = refused n p
counted_all (ok outs) = ok (map length outs)

abbrev pub overwrite_all : List (List ℕ) → List (List ℕ) → List (List ℕ)
overwrite_all [] outs = []
overwrite_all (o ∷ os) [] = o ∷ os
overwrite_all (o ∷ os) (out ∷ outs) = overwrite o out ∷ overwrite_all os outs

abbrev pub leaves_all : List (List ℕ) → Answer (List (List ℕ)) → List (List ℕ)
leaves_all os (refused n p) = os
leaves_all os (ok outs) = overwrite_all os outs

pub record WroteAll (os os' : List (List ℕ)) (r : Answer (List ℕ)) (a : Answer (List (List ℕ))) : Type 0 where
  pub answers : r ≡ counted_all a
  pub buffers : os' ≡ leaves_all os a
