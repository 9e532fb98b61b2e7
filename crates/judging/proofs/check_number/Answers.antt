-- Each return is a test of 30. Assumes nothing.
use Rattle.judging.proofs.Numbers.{number_out, number_in}
use Rattle.judging.proofs.check_number.Goals as goal

pub returns-then-n-eq0 : goal.returns-then-n-eq0
returns-then-n-eq0 c = rw c.at.ensures (number_out _ _ c.then-n-eq0.either)

pub returns : goal.returns
returns c = number_in _ _ c.if-n-eq0.false c.if-count-n.false
