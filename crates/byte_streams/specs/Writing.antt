-- Units written as a byte stream (02, [2]): each after 00 00 00 01; or 32 of the first unit that can stand in no byte stream.
--
--   start_code           00 00 00 01, a start code of four bytes; where one is read, its last three
--   ends_in_zero u       whether u ends in 00
--   is_forbidden x y z   whether three bytes are 00 00 00, 00 00 01 or 00 00 02
--   holds_forbidden u    whether such three stand in u; 00 00 03 may
--   is_streamable u      whether u can stand in a byte stream: `Streamable` of Grammar, as a test
--   stream_of us         each unit after a start code
--   stream_verdict p us  32 of the first that cannot, at the place of its 4 bytes in front, the first unit's at p
--   to_stream us         the byte stream, or 32
use Rattle.std.specs.Prelude.{ℕ, zero, suc, ◌+◌, Bool, true, false, not, ◌&&◌, ◌||◌, List, [], ◌∷◌, ◌++◌, length}
use Rattle.words.specs.Tests.{◌≤?◌, ◌≡?◌}
use Rattle.words.specs.RefusalNumbers.{unit_not_streamable}
use Rattle.words.specs.Refusals.{◌if◌, Answer, Verdict, ok, ◌at_place◌, ◌and_then◌}
use Rattle.words.specs.Lists.{each}

abbrev pub start_code : List ℕ
start_code = 0 ∷ 0 ∷ 0 ∷ 1 ∷ []

unfoldable pub ends_in_zero : List ℕ → Bool
ends_in_zero [] = false
ends_in_zero (zero ∷ []) = true
ends_in_zero (suc x ∷ []) = false
ends_in_zero (x ∷ y ∷ u) = ends_in_zero (y ∷ u)

abbrev pub is_forbidden : ℕ → ℕ → ℕ → Bool
is_forbidden x y z = (x ≡? 0) && ((y ≡? 0) && (z ≤? 2))

unfoldable pub holds_forbidden : List ℕ → Bool
holds_forbidden [] = false
holds_forbidden (x ∷ []) = false
holds_forbidden (x ∷ y ∷ []) = false
holds_forbidden (x ∷ y ∷ z ∷ u) = is_forbidden x y z || holds_forbidden (y ∷ z ∷ u)

unfoldable pub is_streamable : List ℕ → Bool
is_streamable u = not (length u ≡? 0) && (not (ends_in_zero u) && not (holds_forbidden u))

unfoldable pub stream_of : List (List ℕ) → List ℕ
stream_of us = each (λ u. start_code ++ u) us

-- The 4 bytes in front are a start code here, and a length in the output of resolving (01, 'Resolving'): the places are the same.
unfoldable pub stream_verdict : ℕ → List (List ℕ) → Verdict
stream_verdict p [] = ok tt
stream_verdict p (u ∷ us) =
    let rest = stream_verdict (p + (4 + length u)) us in
    (unit_not_streamable if not (is_streamable u)) at_place p and_then rest

unfoldable pub to_stream : List (List ℕ) → Answer (List ℕ)
to_stream us = stream_verdict 0 us and_then ok (stream_of us)
