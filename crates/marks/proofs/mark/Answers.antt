-- The invariant: the first i blocks are marked. Assumes nothing.
use mathlib.Core.Path.{sym}
use Rattle.marks.proofs.Steps.{front_is}
use Rattle.marks.proofs.Marking.{marking_start, marking_step, upto_past}
use Rattle.marks.proofs.mark.Goals as goal

pub returns-then-rows-base : goal.returns-then-rows-base
returns-then-rows-base c = sym (upto_past _ _ _ _ c.if-rows-base.true)

pub loop-i-init : goal.loop-i-init
loop-i-init c = rw (front_is c.default-s.ensures) (marking_start _ _ _)

pub loop-i-preserved : goal.loop-i-preserved
loop-i-preserved c = rw (c.put_row.ensures, c.reach-s.ensures.0) (marking_step _ _ _ _ _ _ c.loop-i.invariant)
