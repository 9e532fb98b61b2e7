-- The copy comes first, while it is not at its end. Assumes nothing.
use borrow.Author.Tests.{lt-ltb, le-ltb}
use Rattle.delivery.specs.Steps.{step_of}
use Rattle.delivery.proofs.step.Goals as goal

pub returns-then-c : goal.returns-then-c
unfolding step_of
returns-then-c c = rw (lt-ltb _ _ c.if-c.true, ← c.sample_bytes.ensures) c.copy_step.ensures

pub returns-else-c : goal.returns-else-c
unfolding step_of
returns-else-c c = rw (le-ltb _ _ c.if-c.false) c.own_step.ensures
