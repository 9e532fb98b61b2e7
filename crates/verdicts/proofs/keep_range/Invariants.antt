-- The invariant: the judgements up to sample n are kept, and their sizes added. Assumes nothing.
use Rattle.verdicts.proofs.Ranges.{Keeping}
use Rattle.verdicts.proofs.keep_range.Given as goal

abbrev pub invariant-loop-before : goal.invariant-loop-before
invariant-loop-before l = Keeping l.b l.initial.t l.first l.last l.t l.size l.before
