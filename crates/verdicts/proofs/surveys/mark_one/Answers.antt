-- Refused; no room; marked. Assumes nothing.
use native.Mathlib.Omega.{arith}
use mathlib.Core.Path.{sym, ap, ◌∙◌}
use Rattle.units.specs.Units.{sample}
use Rattle.samples.specs.Check.{answer_of}
use Rattle.verdicts.proofs.Known.{form_small, told_none, told_refused, told_marked}
use Rattle.verdicts.proofs.surveys.mark_one.Goals as goal

pub word-requires : goal.word-requires
word-requires c = let a = c.args in
    let s = form_small (sample a.k a.x.now) _ _ (sym c.check_sample.ensures ∙ ap answer_of c.in-Err.is) in
    omega (arith, c.requires.0)

pub overflow_add-base : goal.overflow_add-base
overflow_add-base c = omega (arith, c.requires.0, c.requires.1)

pub returns-then-most-base : goal.returns-then-most-base
returns-then-most-base c = told_none _ _ _

pub word-requires-in-Ok : goal.word-requires-in-Ok
word-requires-in-Ok c = omega (arith, c.requires.1)

pub returns-in-Err : goal.returns-in-Err
returns-in-Err c = let a = c.args in
    rw c.word.ensures (told_refused (sample a.k a.x.now) a.base a.rows.now _ _ (sym c.check_sample.ensures ∙ ap answer_of c.in-Err.is))

pub returns-else-most-base : goal.returns-else-most-base
returns-else-most-base c = let a = c.args in
    rw (c.word-in-Ok.ensures, c.mark.ensures) (told_marked (sample a.k a.x.now) a.base a.rows.now (sym c.check_sample.ensures ∙ ap answer_of c.in-Ok.is) c.requires.0 (omega (arith, c.if-most-base.false)))
