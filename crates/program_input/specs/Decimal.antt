-- Decimal digits as a number.
--
--   is_digit c          the byte c is one of '0' to '9'
--   with_digit n c      one digit more at the end of a number; from 10^18 on the largest number of 8 bytes, which no sample has
--   number_from n s     digits more, front to back
--   number_in s         the number that s says: digits only, and at least one
use Rattle.std.specs.Prelude.{ℕ, ◌+◌, ◌-◌, ◌*◌, Bool, ◌&&◌, not, List, [], ◌∷◌, length, None, Option, Some}
use Rattle.words.specs.Bytes.{largest}
use Rattle.words.specs.Tests.{◌≤?◌, ◌≡?◌, pick, ◌when◌else◌}
use Rattle.words.specs.Lists.{some}

-- '0' is 48, '9' is 57
abbrev pub is_digit : ℕ → Bool
is_digit c = (48 ≤? c) && (c ≤? 57)

abbrev pub large : ℕ
large = 1000000000000000000

abbrev pub with_digit : ℕ → ℕ → ℕ
with_digit n c = largest when large ≤? n else n * 10 + (c - 48)

unfoldable pub number_from : ℕ → List ℕ → ℕ
number_from n [] = n
number_from n (c ∷ s) = number_from (with_digit n c) s

unfoldable pub number_in : List ℕ → Option ℕ
number_in s =
    pick (length s ≡? 0) None
    (pick (some (λ c. not (is_digit c)) s) None
    (Some (number_from 0 s)))
