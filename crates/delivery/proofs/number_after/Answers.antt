-- A number below a place can be raised. Assumes nothing.
use borrow.Author.Tests.{lt-ltb, le-ltb}
use Rattle.delivery.specs.Steps.{number_after}
use Rattle.delivery.proofs.number_after.Goals as goal

pub returns-then-count-next : goal.returns-then-count-next
unfolding number_after
returns-then-count-next c = rw (lt-ltb _ _ c.if-count-next.true)

pub returns-else-count-next : goal.returns-else-count-next
unfolding number_after
returns-else-count-next c = rw (le-ltb _ _ c.if-count-next.false)
