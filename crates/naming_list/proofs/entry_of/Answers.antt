-- The two numbers as they are read. Assumes nothing.
use Rattle.naming_list.proofs.entry_of.Goals as goal

pub returns : goal.returns
returns c = rw (c.number-sample.ensures, c.number-place.ensures)
