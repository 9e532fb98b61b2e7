-- The loop's invariant: count is how many of the first i references come from the track, and the one looked for is not among them. Assumes nothing.
use native.Mathlib.Omega.{arith}
use native.Mathlib.Nat.{pos_of_ne-zero}
use mathlib.Core.Path.{◌≡◌, sym, ap, ◌∙◌}
use Prim.Native.Nat.{◌+◌}
use Rattle.bundles.specs.Recordings.{no_reference, references_from}
use Rattle.tables.specs.Tables.{layout_in}
use Rattle.words.proofs.Rows.{nth_none}
use Rattle.tables.proofs.References.{counted, counted_none, counted_hit, counted_miss, found_here, found_none}
use Rattle.tables.proofs.reference.Goals as goal
use Rattle.tables.proofs.reference.Goals.{then-cell-k, else-cell-k}

pub returns-then-index-eq0 : goal.returns-then-index-eq0
returns-then-index-eq0 c = let a = c.args in
    rw c.if-index-eq0.true (sym (ap (λ f. f.to) (nth_none (references_from (layout_in a.t.now) a.k.0) no_reference)))

pub loop-i-init : goal.loop-i-init
loop-i-init c = (omega arith, pos_of_ne-zero c.if-index-eq0.false, sym (counted_none _ _))

pub returns-then-count-index : goal.returns-then-count-index
returns-then-count-index c = let a = c.args in
    let m : c.if-cell-k.count ≡ counted a.t.now a.k.0 (c.loop-i.i + 1) = elim c.if-cell-k.branch [
      | then-cell-k w ↦ w.count-is ∙ counted_hit a.t.now a.k.0 c.loop-i.i c.loop-i.invariant.2 c.cell.ensures w.if-cell-k.true
      | else-cell-k w ↦ w.count-is ∙ counted_miss a.t.now a.k.0 c.loop-i.i c.loop-i.invariant.2 c.cell.ensures w.if-cell-k.false
    ] in
    c.cell-then-count-index.ensures ∙ sym (ap (λ f. f.to) (found_here a.t.now a.k.0 c.loop-i.i a.index
    (omega (arith, c.reference_total-total.ensures.0)) (omega arith) (sym m ∙ c.if-count-index.true)))

pub loop-i-preserved : goal.loop-i-preserved
loop-i-preserved c = let a = c.args in
    elim c.if-cell-k.branch [
      | then-cell-k w ↦ (omega arith, omega (arith, c.if-count-index.false), w.count-is ∙ counted_hit a.t.now a.k.0 c.loop-i.i c.loop-i.invariant.2 c.cell.ensures w.if-cell-k.true)
      | else-cell-k w ↦ (omega arith, omega (arith, c.if-count-index.false), w.count-is ∙ counted_miss a.t.now a.k.0 c.loop-i.i c.loop-i.invariant.2 c.cell.ensures w.if-cell-k.false)
    ]

pub returns : goal.returns
returns c = let a = c.args in
    let e : c.loop-i.i ≡ c.reference_total-total.result = omega arith in
    rw (found_none a.t.now a.k.0 a.index (rw (← c.reference_total-total.ensures.0, ← e, ← c.loop-i.invariant.2) c.loop-i.invariant.1))
