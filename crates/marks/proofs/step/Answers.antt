-- An aggregator, or another unit. Assumes nothing.
use native.Mathlib.Omega.{arith}
use borrow.Author.Tests.{eq-eqb, ne_eqb}
use Rattle.marks.proofs.Steps.{step_in, step_passed}
use Rattle.marks.proofs.step.Goals as goal

pub returns-in-30 : goal.returns-in-30
returns-in-30 c = step_in _ _ _ c.bytes-n.ensures.0 c.length_at-size.ensures.0 c.type_at.ensures c.in-30.is

pub returns-in_default : goal.returns-in_default
returns-in_default c = step_passed _ _ _ c.bytes-n.ensures.0 c.length_at-size.ensures.0 c.type_at.ensures
    (λ e. absurd (omega arith))
    (λ e. rw (eq-eqb _ 31 e) at c.from.ensures)
    (λ e. rw (ne_eqb _ 31 e) at c.from.ensures)
