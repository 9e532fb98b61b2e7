-- The walk's answer tells whether the bytes are the sets. Assumes nothing.
use Rattle.sets.proofs.Laws.{fit_walk}
use Rattle.sets.proofs.are_sets.Goals as goal

pub returns : goal.returns
returns c = rw c.eq.ensures (fit_walk _ _ _ _ _ c.walk_sets.ensures.fault c.walk_sets.ensures.end)
