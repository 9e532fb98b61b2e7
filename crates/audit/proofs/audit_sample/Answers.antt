-- Line and outcome come from the judgement that is kept. Assumes nothing.
use Prim.Native.Nat.{◌+◌}
use native.Mathlib.Omega.{arith}
use Rattle.tables.specs.Tables.{recording_in}
use Rattle.audit.proofs.Steps.{line_judged, outcome_judged}
use Rattle.audit.proofs.audit_sample.Goals as goal

pub returns : goal.returns
unfolding recording_in
returns c = let a = c.args in
    let p = c.requires in
    let n = a.done + 1 in (
      rw (c.outcome.ensures, c.sample_bytes-x.ensures, outcome_judged a.b.now a.t.now p.0 n (omega arith) (omega (arith, p.2)) c.kept_verdict-judged.result c.kept_verdict-judged.ensures),
      rw (c.put_line.ensures, line_judged a.b.now a.t.now p.0 n (omega arith) (omega (arith, p.2)) c.kept_verdict-judged.result c.kept_verdict-judged.ensures),
    )
