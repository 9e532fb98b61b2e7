-- Three writes, one after the other. Assumes nothing.
use native.Mathlib.Omega.{arith}
use mathlib.Core.Path.{◌∙◌}
use Rattle.record_rules.proofs.Numbers.{numbers}
use Rattle.record_writer.proofs.Laws.{front_written}
use Rattle.record_writer.proofs.putting.put_front.Goals as goal

pub overflow_cast-count : goal.overflow_cast-count
overflow_cast-count c = let n = numbers c.args.k c.args.f c.requires.0 in omega (arith, n.pictures)

pub returns : goal.returns
returns c = let a = c.args in
    c.put_bytes-3.ensures ∙ rw (c.put_bytes-2.ensures, c.put_bytes.ensures, c.head_bytes-head.ensures) (front_written a.out.now a.k a.f a.sequences.now c.requires.1)
