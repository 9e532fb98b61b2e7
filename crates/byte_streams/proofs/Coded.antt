-- One unit more in front of a byte stream. Assumes nothing.
--
--   with_unit  what starts with a start code and a unit is a byte stream, if the rest is one
use Prim.Native.Nat.{ℕ}
use mathlib.Core.List.{List, ◌∷◌, ◌++◌}
use Rattle.byte_streams.specs.Grammar.{Streamable, StartCoded, ByteStream}

pub with_unit : {us : List (List ℕ)} {s : List ℕ} (u : List ℕ) → Streamable u → ByteStream us s → ByteStream (u ∷ us) (0 ∷ 0 ∷ 0 ∷ 1 ∷ (u ++ s))
with_unit u h (ByteStream.stream n c) = ByteStream.stream 1 (StartCoded.unit u h n c)
