-- An extractor by its fields; no other unit names a sample. Assumes nothing.
use Rattle.naming_list.specs.Steps.{names_at}
use Rattle.naming_list.proofs.names_at.Goals as goal

pub returns-in-Some : goal.returns-in-Some
unfolding names_at
returns-in-Some c = rw (← c.extractor_at.ensures, c.in-Some.is) c.names_with.ensures

pub returns-in-None : goal.returns-in-None
unfolding names_at
returns-in-None c = rw (← c.extractor_at.ensures, c.in-None.is)
