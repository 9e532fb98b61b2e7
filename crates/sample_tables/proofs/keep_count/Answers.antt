-- A sample that there is not, a table without room for the count, or one store. Assumes nothing.
use native.Mathlib.Omega.{arith}
use mathlib.Core.Path.{sym}
use borrow.Author.Tests.{lt-ltb, le-ltb, eq-eqb, ne_eqb}
use Rattle.tables.specs.Tables.{sample_total, with_kept_count}
use Rattle.tables.proofs.KeptCounts.{set_beyond}
use Rattle.sample_tables.proofs.keep_count.Goals as goal
use Rattle.sample_tables.proofs.keep_count.Goals.{then-n-eq0-via-then-n-eq0, then-n-eq0-via-else-n-eq0+then-sample_total-n}

pub returns-then-n-eq0 : goal.returns-then-n-eq0
unfolding with_kept_count
returns-then-n-eq0 c = let a = c.args in
    elim c.then-n-eq0.branch [
      | then-n-eq0-via-then-n-eq0 w ↦ rw (eq-eqb a.n.0 0 w.if-n-eq0.true)
      | then-n-eq0-via-else-n-eq0+then-sample_total-n w ↦ rw (ne_eqb a.n.0 0 w.if-n-eq0.false, ← w.sample_total.ensures.0, lt-ltb w.sample_total.result a.n.0 w.if-sample_total-n.true)
    ]

pub returns-then-at-t : goal.returns-then-at-t
unfolding with_kept_count
returns-then-at-t c = let a = c.args in
    rw (ne_eqb a.n.0 0 c.if-n-eq0.false, le-ltb (sample_total a.t.now) a.n.0 (omega (arith, c.sample_total.ensures.0)))

pub returns-else-at-t : goal.returns-else-at-t
unfolding with_kept_count
returns-else-at-t c = let a = c.args in
    rw (ne_eqb a.n.0 0 c.if-n-eq0.false, le-ltb (sample_total a.t.now) a.n.0 (omega (arith, c.sample_total.ensures.0))) (sym (set_beyond a.t.now _ a.v c.if-at-t.false))
