-- The loop's invariant: the first i bytes are copied. Assumes nothing.
use native.Mathlib.Omega.{arith}
use mathlib.Core.Path.{◌≡◌, sym, ◌∙◌}
use lib.ListN.{length, length-set}
use Rattle.words.proofs.Buffers.{copy_step, copy_done, put_fits, put_not}
use Rattle.numbers.proofs.put_bytes.Goals as goal

pub loop-i-preserved : goal.loop-i-preserved
loop-i-preserved c = let a = c.args in (
  simp length-set c.loop-i.invariant.0,
  rw c.loop-i.invariant.1 (copy_step a.out.now a.s.now a.at c.loop-i.i (omega arith) (omega arith)),
)

pub returns-after-loop-i : goal.returns-after-loop-i
returns-after-loop-i c = let a = c.args in
    let e : c.loop-i.i ≡ length a.s.now = omega arith in
    rw (c.loop-i.invariant.1, e) (copy_done a.out.now a.s.now a.at ∙ sym (put_fits a.out.now a.at a.s.now (omega arith)))

pub returns-else-at-out : goal.returns-else-at-out
returns-else-at-out c = sym (put_not c.args.out.now c.args.at c.args.s.now (omega arith))
