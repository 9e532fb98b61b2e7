-- The limit of the programs' input (01, 'Audit and naming list'), and what of their buffers is used.
--
--   input_most      the most bytes of a bundle that the programs take
--   too_big n more  whether input of which n bytes filled the buffer, and `more` bytes came after them, is too big
--   front s n       the first n bytes; all where there are fewer
use Rattle.std.specs.Prelude.{ℕ, Bool, ◌&&◌, List, length, take}
use Rattle.words.specs.Tests.{◌<?◌, ◌≤?◌, pick}

abbrev pub input_most : ℕ
input_most = 65536

unfoldable pub too_big : ℕ → ℕ → Bool
too_big n more = (input_most ≤? n) && (0 <? more)

unfoldable pub front : List ℕ → ℕ → List ℕ
front s n = pick (length s <? n) s (take n s)
