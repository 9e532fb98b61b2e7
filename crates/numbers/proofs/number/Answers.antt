-- The loop's invariant: v is the number of the first i bytes, and below 256 ^ i. Assumes nothing.
use borrow.Author.Rules.{rules}
use native.Mathlib.Omega.{arith}
use mathlib.Core.Path.{refl}
use Rattle.words.specs.Bytes.{big}
use Rattle.words.proofs.Bytes.{big_more, pow_more, pow_small}
use Rattle.numbers.proofs.number.Goals as goal

pub loop-i-init : goal.loop-i-init
unfolding big
loop-i-init c = (refl, search rules)

pub overflow_mul-v : goal.overflow_mul-v
overflow_mul-v c = omega (arith, pow_small c.loop-i.i (omega arith))

pub overflow_add-v : goal.overflow_add-v
overflow_add-v c = omega (arith, c.byte_after.ensures, pow_small c.loop-i.i (omega arith))

pub loop-i-preserved : goal.loop-i-preserved
loop-i-preserved c = (rw big_more (omega (arith, c.byte_after.ensures)), rw pow_more (omega (arith, c.byte_after.ensures)))
