-- By whether the unit names the sample. Assumes nothing.
use mathlib.Core.Path.{refl}
use Rattle.naming_list.proofs.put_namer.Goals as goal

pub returns-then-names_at : goal.returns-then-names_at
returns-then-names_at c = rw (← c.names_at.ensures, c.if-names_at.true) (refl, c.put_entry.ensures)

pub returns : goal.returns
returns c = rw (← c.names_at.ensures, c.if-names_at.false) (refl, refl)
