-- By one test. Assumes nothing.
use borrow.Author.Tests.{lt-ltb, le-ltb}
use Rattle.salvage.proofs.writing.tail_size.Goals as goal

pub returns-then-fault-size : goal.returns-then-fault-size
returns-then-fault-size c = rw (lt-ltb _ _ c.if-fault-size.true)

pub returns : goal.returns
returns c = rw (le-ltb _ _ c.if-fault-size.false)
