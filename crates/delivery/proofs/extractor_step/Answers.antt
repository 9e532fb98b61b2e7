-- An extractor's fields, and the sample that they name. Assumes nothing.
use Rattle.tables.specs.Tables.{recording_in}
use Rattle.delivery.proofs.extractor_step.Goals as goal

pub returns-in_default-name : goal.returns-in_default-name
unfolding recording_in
returns-in_default-name c = rw (← c.extractor_at.ensures, c.in-Some.is, ← c.in_default-name.ensures)

pub returns : goal.returns
unfolding recording_in
returns c = rw (← c.extractor_at.ensures, c.in-Some.is, ← c.in-Ok.ensures, c.copy_of.ensures)
