-- Four bytes hold a number below 2 to the 32. Assumes nothing.
use Prim.Native.Nat.{◌+◌}
use Rattle.bundles.specs.Fields.{length_offset, sample_length_size}
use Rattle.words.proofs.Bytes.{big_below}
use native.Mathlib.Omega.{arith}
use Rattle.bundles.proofs.sample_length.Goals as goal

pub returns : goal.returns
returns c = let a = c.args in
    (c.number.ensures, rw c.number.ensures (big_below a.b.now (a.at + length_offset) sample_length_size (λ i. omega (arith, c.type_inv.b i))))
