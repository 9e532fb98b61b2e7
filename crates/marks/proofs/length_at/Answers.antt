-- At most 4 bytes. Assumes nothing.
use native.Mathlib.Omega.{arith}
use Rattle.words.proofs.Bytes.{big_below}
use Rattle.numbers.specs.Sizes.{in_bytes}
use Rattle.marks.proofs.Steps.{size_small}
use Rattle.marks.proofs.length_at.Goals as goal

pub returns : goal.returns
returns c = let a = c.args in (c.number.ensures, rw c.number.ensures (let b = big_below a.z.now a.p (in_bytes a.l) (λ i. omega (arith, c.type_inv.z i)) in let m = size_small a.l in omega arith))
