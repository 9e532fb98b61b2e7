-- By what stands there. Assumes nothing.
use Rattle.delivery.specs.Steps.{own_step}
use Rattle.delivery.proofs.own_step.Goals as goal

pub returns-in-Nothing : goal.returns-in-Nothing
unfolding own_step
returns-in-Nothing c = rw (← c.item_at.ensures, c.in-Nothing.is)

pub returns-in-Aggregator : goal.returns-in-Aggregator
unfolding own_step
returns-in-Aggregator c = rw (c.with_place.ensures, ← c.item_at.ensures, c.in-Aggregator.is)

pub returns-in-Extractor : goal.returns-in-Extractor
unfolding own_step
returns-in-Extractor c = rw (← c.item_at.ensures, c.in-Extractor.is) c.extractor_step.ensures

pub returns-in-Unit : goal.returns-in-Unit
unfolding own_step
returns-in-Unit c = rw (c.with_place-in-Unit.ensures, ← c.item_at.ensures, c.in-Unit.is)
