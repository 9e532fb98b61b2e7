-- The loop's invariant: count is how many of the first i references come from the track. Assumes nothing.
use native.Mathlib.Omega.{arith}
use mathlib.Core.Path.{◌≡◌, sym, ◌∙◌}
use Rattle.tables.proofs.References.{counted_none, counted_hit, counted_miss, counted_all_lem}
use Rattle.tables.proofs.reference_count.Goals as goal
use Rattle.tables.proofs.reference_count.Goals.{then-cell-k, else-cell-k}

pub loop-i-init : goal.loop-i-init
loop-i-init c = (omega arith, sym (counted_none _ _))

pub loop-i-preserved : goal.loop-i-preserved
loop-i-preserved c = let a = c.args in
    elim c.if-cell-k.branch [
      | then-cell-k w ↦ (omega arith, w.count-is ∙ counted_hit a.t.now a.k.0 c.loop-i.i c.loop-i.invariant.1 c.cell.ensures w.if-cell-k.true)
      | else-cell-k w ↦ (omega arith, w.count-is ∙ counted_miss a.t.now a.k.0 c.loop-i.i c.loop-i.invariant.1 c.cell.ensures w.if-cell-k.false)
    ]

pub returns : goal.returns
returns c = let e : c.loop-i.i ≡ c.reference_total-total.result = omega arith in
    rw (counted_all_lem c.args.t.now c.args.k.0, ← c.reference_total-total.ensures.0, ← e) c.loop-i.invariant.1
