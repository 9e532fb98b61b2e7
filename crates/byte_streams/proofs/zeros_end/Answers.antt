-- The loop goes on from a place where the zeros end where they did before. Assumes nothing.
use native.Mathlib.Omega.{arith}
use mathlib.Core.Path.{refl, sym, ◌∙◌}
use Rattle.byte_streams.proofs.Places.{zero_at, zero_on, zero_end}
use Rattle.byte_streams.proofs.zeros_end.Goals as goal

pub loop-p-init : goal.loop-p-init
loop-p-init c = refl

pub returns-then-s-p-ne0 : goal.returns-then-s-p-ne0
returns-then-s-p-ne0 c = let l = c.loop-p in sym (zero_at _ l.p (omega arith) c.if-s-p-ne0.true) ∙ l.invariant

pub loop-p-preserved : goal.loop-p-preserved
loop-p-preserved c = let l = c.loop-p in zero_on _ l.p (omega arith) c.if-s-p-ne0.false ∙ l.invariant

pub returns : goal.returns
returns c = let l = c.loop-p in sym (zero_end _ l.p (omega arith)) ∙ l.invariant
