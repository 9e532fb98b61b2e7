-- A track that there is not, or where its samples start and end. Assumes nothing.
use Prim.Native.Nat.{ℕ, ◌<◌}
use mathlib.Core.Path.{◌≡◌, sym}
use mathlib.Core.List.{List}
use native.Mathlib.Omega.{arith}
use borrow.Author.Tests.{lt-ltb, le-ltb, eq-eqb, ne_eqb}
use Rattle.bundles.specs.Recordings.{samples_in}
use Rattle.tables.specs.declared.SampleRange.{SampleRange}
use Rattle.tables.specs.Tables.{track_total, layout_in, range_in, numbers_in}
use Rattle.tables.proofs.Ranges.{range_samples}
use Rattle.sample_tables.proofs.sample_range.Goals as goal
use Rattle.sample_tables.proofs.sample_range.Goals.{then-k-eq0-via-then-k-eq0, then-k-eq0-via-else-k-eq0+then-track_total-k}

both : (t : List ℕ) (k : ℕ) (r : SampleRange) → r ≡ range_in t k → (r ≡ range_in t k) × (0 < k → numbers_in r ≡ samples_in (layout_in t) k)
both t k r e = (e, λ h. rw e (sym (range_samples t k h)))

pub returns-then-k-eq0 : goal.returns-then-k-eq0
unfolding range_in
returns-then-k-eq0 c = let a = c.args in
    both a.t.now a.k.0 _ (elim c.then-k-eq0.branch [
      | then-k-eq0-via-then-k-eq0 w ↦ rw (eq-eqb a.k.0 0 w.if-k-eq0.true)
      | then-k-eq0-via-else-k-eq0+then-track_total-k w ↦ rw (ne_eqb a.k.0 0 w.if-k-eq0.false, ← w.track_total.ensures.0, lt-ltb w.track_total.result a.k.0 w.if-track_total-k.true)
    ])

pub returns : goal.returns
unfolding range_in
returns c = let a = c.args in
    both a.t.now a.k.0 _ (rw (ne_eqb a.k.0 0 c.if-k-eq0.false, le-ltb (track_total a.t.now) a.k.0 (omega (arith, c.track_total.ensures.0)), c.cell.ensures, c.after.ensures))
