-- The loop's invariant: end is the least start of the first j tracks' samples, as far as they come after track k. Assumes nothing.
use native.Mathlib.Omega.{arith}
use Prim.Native.Nat.{◌+◌}
use mathlib.Core.Path.{◌≡◌, sym, ap, ◌∙◌}
use Rattle.tables.specs.Tables.{after_in}
use Rattle.tables.proofs.Ranges.{after_first, after_min}
use Rattle.sample_tables.proofs.after.Goals as goal
use Rattle.sample_tables.proofs.after.Goals.{then-k-j, else-k-j}

pub loop-j-init : goal.loop-j-init
loop-j-init c = let a = c.args in c.sample_total-end.ensures.0 ∙ sym (after_first a.t.now a.k 0 (omega arith))

pub loop-j-preserved : goal.loop-j-preserved
loop-j-preserved c = let a = c.args in
    elim c.if-k-j.branch [
      | then-k-j w ↦ w.end-is ∙ w.min-end.ensures ∙ rw (c.cell-before.ensures, c.loop-j.invariant) (sym (after_min a.t.now a.k c.loop-j.j w.if-k-j.true))
      | else-k-j w ↦ w.end-is ∙ c.loop-j.invariant ∙ after_first a.t.now a.k c.loop-j.j (omega (arith, w.if-k-j.false)) ∙ sym (after_first a.t.now a.k (c.loop-j.j + 1) (omega (arith, w.if-k-j.false)))
    ]

pub returns : goal.returns
returns c = let a = c.args in
    let e : c.loop-j.j ≡ c.track_total-total.result = omega arith in
    c.loop-j.invariant ∙ ap (after_in a.t.now a.k) (e ∙ c.track_total-total.ensures.0)
