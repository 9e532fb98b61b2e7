-- The steps of reading a byte stream s.
--
--   unit_from s a      the unit that starts at a
--   next_from s a      where the start code after it ends, at its 01; the end of s if there is none; if a byte may not stand in the
--                      unit, that byte
--   parts_after s p    the parts after the start code whose 01 stands at p; none if p is the end
--   judgement L s a    33 or 34 of that unit, or its size, and where the next start code ends
--   judged_of          what the answer of `judge` says: the same
--   capped room m      m as a total that there is room for, or too long
--   add_to room t w n  a total with w and n bytes more
use Rattle.std.specs.Prelude.{ℕ, ◌+◌, List, [], ◌∷◌, length, drop, None, Option, Some, Err, Ok, Result}
use Rattle.words.specs.Tests.{◌<?◌, pick}
use Rattle.words.specs.Refusals.{Answer, refused, ok, ◌and_then◌}
use Rattle.byte_streams.specs.Reading.{split, strip, unit_verdict}
use Rattle.byte_streams.specs.Places.{unit_stop, zeros_end}
use Rattle.numbers.specs.declared.Refusal.{Refusal}
use Rattle.stream_reader.specs.declared.units.GoodUnit.{GoodUnit}

unfoldable pub unit_from : List ℕ → ℕ → List ℕ
unit_from s a = strip (split (drop a s)).before

unfoldable pub next_from : List ℕ → ℕ → ℕ
next_from s a = zeros_end s (unit_stop s a)

unfoldable pub parts_after : List ℕ → ℕ → List (List ℕ)
parts_after s p = pick (p <? length s) ((split (drop (p + 1) s)).before ∷ (split (drop (p + 1) s)).after) []

abbrev pub judgement : ℕ → List ℕ → ℕ → Answer (ℕ × ℕ)
judgement L s a = unit_verdict L a (unit_from s a) and_then ok (length (unit_from s a), next_from s a)

abbrev pub judged_of : Result GoodUnit Refusal → Answer (ℕ × ℕ)
judged_of (Err f) = refused f.number f.place.0
judged_of (Ok u) = ok (u.size, u.next)

abbrev pub capped : ℕ → ℕ → Option ℕ
capped room m = pick (room <? m) None (Some m)

abbrev pub add_to : ℕ → Option ℕ → ℕ → ℕ → Option ℕ
add_to room (Some m) w n = capped room (m + w + n)
add_to room None w n = None
