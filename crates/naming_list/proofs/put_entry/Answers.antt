-- Two numbers, one after the other. Assumes nothing.
use Rattle.naming_list.proofs.put_entry.Goals as goal

pub returns : goal.returns
returns c = rw (c.put_number-2.ensures, c.put_number.ensures)
