-- `vectors::replace::compare`: those compared and those listed are among the samples before n. Assumes nothing.
use Rattle.std.proofs.Common.{◌+◌, ◌<◌}
use Rattle.vectors.proofs.replace.compare.Given as goal

abbrev pub invariant-loop-n : goal.invariant-loop-n
invariant-loop-n g l = l.compared + l.listed < l.n-counter
