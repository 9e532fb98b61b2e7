-- The steps' answer, at place 0. Assumes nothing.
use Rattle.records.proofs.Walked.{answered}
use Rattle.records.proofs.read_as.Goals as goal

pub returns : goal.returns
returns c = rw c.at_place.ensures (answered _ _ _ c.record_of.ensures.fault c.record_of.ensures.value)
