-- The loop goes on from a place where the unit stops where it did before. Assumes nothing.
use native.Mathlib.Omega.{arith}
use mathlib.Core.Path.{refl, sym, ◌∙◌}
use Rattle.byte_streams.proofs.Places.{stop_zeros, stop_end, stop_one, stop_two, stop_three, stop_last, stop_first, stop_pair, stop_single}
use Rattle.byte_streams.proofs.unit_stop.Goals as goal
use Rattle.byte_streams.proofs.unit_stop.Goals.{else-i-n-via-then-i-n+else-s-i-ne0-3, else-i-n-via-else-i-n}

pub returns-then-n-from : goal.returns-then-n-from
returns-then-n-from c = sym (stop_end _ _ c.if-n-from.true)

pub loop-i-init : goal.loop-i-init
loop-i-init c = (refl, omega arith, refl)

pub loop-i-preserved-then-s-i-gt2 : goal.loop-i-preserved-then-s-i-gt2
loop-i-preserved-then-s-i-gt2 c = let l = c.loop-i in (refl, omega arith, stop_three _ l.i (omega arith) c.if-s-i-gt2.true ∙ l.invariant.2)

pub loop-i-preserved-then-s-i-ne0 : goal.loop-i-preserved-then-s-i-ne0
loop-i-preserved-then-s-i-ne0 c = let l = c.loop-i in (refl, omega arith, stop_two _ l.i (omega arith) c.if-s-i-ne0.true ∙ l.invariant.2)

pub loop-i-preserved : goal.loop-i-preserved
loop-i-preserved c = let l = c.loop-i in (refl, omega arith, stop_one _ l.i (omega arith) c.if-s-i-ne0-2.true ∙ l.invariant.2)

pub returns-else-s-i-ne0-2 : goal.returns-else-s-i-ne0-2
returns-else-s-i-ne0-2 c = let l = c.loop-i in sym (stop_zeros _ l.i (omega arith) c.if-s-i-ne0-2.false c.if-s-i-ne0.false c.if-s-i-gt2.false) ∙ l.invariant.2

pub returns-then-n-i : goal.returns-then-n-i
returns-then-n-i c = let l = c.loop-i in sym (stop_end _ l.i c.if-n-i.true) ∙ l.invariant.2

pub returns-then-s-n-ne0 : goal.returns-then-s-n-ne0
returns-then-s-n-ne0 c = let l = c.loop-i in sym (stop_last _ l.i (omega arith) (omega arith) c.if-s-n-ne0.true) ∙ l.invariant.2

pub returns-then-s-i-ne0-3 : goal.returns-then-s-i-ne0-3
returns-then-s-i-ne0-3 c = let l = c.loop-i in sym (stop_first _ l.i (omega arith) c.if-s-n-ne0.false c.if-s-i-ne0-3.true) ∙ l.invariant.2

pub returns-else-i-n : goal.returns-else-i-n
returns-else-i-n c = let l = c.loop-i in elim c.else-i-n.branch [
  | else-i-n-via-then-i-n+else-s-i-ne0-3 w ↦ sym (stop_pair _ l.i (omega arith) c.if-s-n-ne0.false w.if-s-i-ne0-3.false) ∙ l.invariant.2
  | else-i-n-via-else-i-n w ↦ sym (stop_single _ l.i (omega arith) c.if-s-n-ne0.false) ∙ l.invariant.2
]
