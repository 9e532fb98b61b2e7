-- Two numbers, one after the other. Assumes nothing.
use Rattle.salvage.proofs.Filled.{change_put}
use Rattle.salvage.proofs.writing.put_change.Goals as goal

pub returns : goal.returns
returns c = rw (c.put_number-2.ensures, c.put_number.ensures) (change_put _ _ _ _ c.requires)
