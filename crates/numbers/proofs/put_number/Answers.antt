-- The loop's invariant: the last n - i bytes are written, and rest is what is left of v. Assumes nothing.
use native.Mathlib.Omega.{arith}
use mathlib.Core.Path.{sym}
use Rattle.words.specs.Bytes.{bytes}
use Rattle.words.proofs.Bytes.{bytes_length}
use Rattle.words.proofs.Buffers.{put_not}
use Rattle.numbers.proofs.Laws.{back_start, back_next, back_end}
use Rattle.numbers.proofs.put_number.Goals as goal

pub loop-i-init : goal.loop-i-init
loop-i-init c = back_start c.args.out.now c.args.at c.args.n c.args.v

pub loop-i-preserved : goal.loop-i-preserved
loop-i-preserved c = back_next _ _ _ _ _ _ _ (omega arith) (omega arith) c.loop-i.invariant

pub returns-after-loop-i : goal.returns-after-loop-i
returns-after-loop-i c = back_end _ _ _ _ _ _ _ (omega arith) (omega arith) c.loop-i.invariant

pub returns-else-at-out : goal.returns-else-at-out
returns-else-at-out c = sym (put_not c.args.out.now c.args.at (bytes c.args.n c.args.v) (rw (bytes_length c.args.n c.args.v) (omega arith)))
