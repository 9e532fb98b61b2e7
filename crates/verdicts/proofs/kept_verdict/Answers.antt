-- By its first part. Assumes nothing.
use borrow.Author.Tests.{eq-eqb, ne_eqb}
use Rattle.verdicts.specs.Kept.{verdict_in}
use Rattle.verdicts.proofs.kept_verdict.Goals as goal

pub returns-then-number-eq0 : goal.returns-then-number-eq0
unfolding verdict_in
returns-then-number-eq0 c = rw (← c.kept_count-word.ensures, eq-eqb _ 0 c.if-number-eq0.true)

pub returns : goal.returns
unfolding verdict_in
returns c = rw (← c.kept_count-word.ensures, ne_eqb _ 0 c.if-number-eq0.false)
