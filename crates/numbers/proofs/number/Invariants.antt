-- The loop's invariant: v is the number of the first i bytes, and below 256 ^ i. Assumes nothing.
use mathlib.Core.Path.{◌≡◌}
use Prim.Native.Nat.{◌<◌, ◌^◌}
use Rattle.words.specs.Bytes.{big}
use Rattle.numbers.proofs.number.Given as goal

abbrev pub invariant-loop-i : goal.invariant-loop-i
invariant-loop-i l = (l.v ≡ big l.s l.at l.i) × (l.v < 256 ^ l.i)
