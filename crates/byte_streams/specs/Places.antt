-- What the code looks for, by place.
--
--   clear_length v   how many bytes of v stand before the first 00 00 00, 00 00 01 or 00 00 02, as if zeros followed v
--   unit_stop s p    so where the search for the end of a unit that starts at p stops: at its end, or sooner at zeros that are followed
--                    by a byte that may not follow them
--   leading_zeros v  how many zeros v begins with
--   zeros_end s p    so where the zeros end that start at p
use Rattle.std.specs.Prelude.{ℕ, zero, suc, ◌+◌, List, [], ◌∷◌, drop}
use Rattle.words.specs.Tests.{pick}
use Rattle.words.specs.Bytes.{byte_at}
use Rattle.byte_streams.specs.Writing.{is_forbidden}

-- `byte_at` is 0 past the end
unfoldable pub clear_length : List ℕ → ℕ
clear_length [] = 0
clear_length (x ∷ v) = let rest = clear_length v in pick (is_forbidden x (byte_at v 0) (byte_at v 1)) 0 (suc rest)

unfoldable pub unit_stop : List ℕ → ℕ → ℕ
unit_stop s p = p + clear_length (drop p s)

unfoldable pub leading_zeros : List ℕ → ℕ
leading_zeros [] = 0
leading_zeros (zero ∷ v) = suc (leading_zeros v)
leading_zeros (suc x ∷ v) = 0

unfoldable pub zeros_end : List ℕ → ℕ → ℕ
zeros_end s p = p + leading_zeros (drop p s)
