-- By one test. Assumes nothing.
use borrow.Author.Tests.{lt-ltb, le-ltb}
use Rattle.salvage.proofs.writing.put_tail.Goals as goal

pub put_change-requires : goal.put_change-requires
put_change-requires c = c.requires c.if-fault-size.true

pub returns-then-fault-size : goal.returns-then-fault-size
returns-then-fault-size c = rw (lt-ltb _ _ c.if-fault-size.true) c.put_change.ensures

pub returns-else-fault-size : goal.returns-else-fault-size
returns-else-fault-size c = rw (le-ltb _ _ c.if-fault-size.false)
