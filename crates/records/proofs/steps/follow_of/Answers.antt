-- No trailer belongs there, or it is absent. Assumes nothing.
use native.Mathlib.Omega.{arith}
use mathlib.Core.Path.{sym, ◌∙◌}
use Rattle.records.proofs.Walked.{follow_none, follow_absent}
use Rattle.records.proofs.steps.follow_of.Goals as goal

pub returns-then-not-trailer_belongs : goal.returns-then-not-trailer_belongs
returns-then-not-trailer_belongs c =
    let n = follow_none _ _ _ c.requires.2 (sym c.trailer_belongs.ensures ∙ c.if-not-trailer_belongs.true) in
    record { fault = n.0; value = c.nothing.ensures ∙ n.1 }

pub returns-then-left-eq0 : goal.returns-then-left-eq0
returns-then-left-eq0 c =
    let n = follow_absent _ _ _ c.requires.2 (sym c.trailer_belongs.ensures ∙ c.if-not-trailer_belongs.false) (omega (arith, c.if-left-eq0.true)) in
    record { fault = n.0; value = c.nothing-then-left-eq0.ensures ∙ n.1 }
