-- The loop's invariant: found is the last of the tracks before k that has fewer than n samples before it. Assumes nothing.
use native.Mathlib.Omega.{arith}
use native.Mathlib.Numerals.{add-one}
use mathlib.Core.Path.{◌≡◌, refl, ap, ◌∙◌}
use mathlib.Core.List.{List}
use Prim.Native.Nat.{ℕ, suc, zero, ◌+◌, ◌-◌, ◌<◌, ◌≤◌}
use borrow.Author.Tests.{lt-ltb, le-ltb}
use Rattle.words.specs.Tests.{◌<?◌, pick}
use Rattle.words.specs.Lists.{last_that, upto}
use Rattle.tables.specs.Tables.{before_in}
use Rattle.words.proofs.Rows.{last_that_more}
use Rattle.sample_tables.proofs.owner.Goals as goal
use Rattle.sample_tables.proofs.owner.Goals.{then-cell-n, else-cell-n}

module _ (t : List ℕ) (n : ℕ) where
  abbrev last : ℕ → ℕ
  last k = last_that (λ m. before_in t m <? n) (upto k)

  -- one track more
  more : (k : ℕ) → 0 < k → last k ≡ pick (before_in t k <? n) k (last (k - 1))
  more zero h = absurd (omega arith)
  more (suc k) h = let e : suc k - 1 ≡ k = omega arith in rw e (rw (add-one k) at (last_that_more (λ m. before_in t m <? n) k))

  module _ (k found cell : ℕ) (h : 0 < k) (f : found ≡ last (k - 1)) (e : cell ≡ before_in t k) where
    later : cell < n → k ≡ last k
    later l = rw (more k h, ← e, lt-ltb _ _ l)

    earlier : n ≤ cell → found ≡ last k
    earlier l = rw (more k h, ← e, le-ltb _ _ l) f

pub loop-k-init : goal.loop-k-init
unfolding upto last_that
loop-k-init c = (omega arith, refl)

pub loop-k-preserved : goal.loop-k-preserved
loop-k-preserved c = let a = c.args in let l = c.loop-k in
    let e : l.k ≡ l.k + 1 - 1 = omega arith in (
      omega arith,
      elim c.if-cell-n.branch [
        | then-cell-n w ↦ w.found-is ∙ later a.t.now a.n l.k l.found _ (omega arith) l.invariant.1 c.cell.ensures w.if-cell-n.true ∙ ap (last a.t.now a.n) e
        | else-cell-n w ↦ w.found-is ∙ earlier a.t.now a.n l.k l.found _ (omega arith) l.invariant.1 c.cell.ensures w.if-cell-n.false ∙ ap (last a.t.now a.n) e
      ],
    )

pub returns : goal.returns
returns c = let a = c.args in
    let e : c.loop-k.k - 1 ≡ c.track_total-total.result = omega arith in
    c.loop-k.invariant.1 ∙ ap (last a.t.now a.n) (e ∙ c.track_total-total.ensures.0)

pub returns-after-cell-n : goal.returns-after-cell-n
returns-after-cell-n c = let a = c.args in let l = c.loop-k in
    let e : l.k ≡ c.track_total-total.result = omega arith in
    elim c.if-cell-n.branch [
      | then-cell-n w ↦ w.found-is ∙ later a.t.now a.n l.k l.found _ (omega arith) l.invariant.1 c.cell.ensures w.if-cell-n.true ∙ ap (last a.t.now a.n) (e ∙ c.track_total-total.ensures.0)
      | else-cell-n w ↦ w.found-is ∙ earlier a.t.now a.n l.k l.found _ (omega arith) l.invariant.1 c.cell.ensures w.if-cell-n.false ∙ ap (last a.t.now a.n) (e ∙ c.track_total-total.ensures.0)
    ]
