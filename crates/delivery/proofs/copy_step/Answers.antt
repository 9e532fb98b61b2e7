-- By what stands there. Assumes nothing.
use Rattle.delivery.specs.Steps.{copy_step}
use Rattle.delivery.proofs.copy_step.Goals as goal

pub returns-in-Nothing : goal.returns-in-Nothing
unfolding copy_step
returns-in-Nothing c = rw (← c.item_at.ensures, c.in-Nothing.is)

pub returns-in-Aggregator : goal.returns-in-Aggregator
unfolding copy_step
returns-in-Aggregator c = rw (c.with_copy_at.ensures, ← c.item_at.ensures, c.in-Aggregator.is)

pub returns-in-Extractor : goal.returns-in-Extractor
unfolding copy_step
returns-in-Extractor c = rw (← c.item_at.ensures, c.in-Extractor.is)

pub returns-in-Unit : goal.returns-in-Unit
unfolding copy_step
returns-in-Unit c = rw (c.with_copy_at-in-Unit.ensures, c.number_after-number.ensures, ← c.item_at.ensures, c.in-Unit.is)
