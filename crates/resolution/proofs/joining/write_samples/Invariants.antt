-- The invariant: what the samples up to n give is written. Assumes nothing.
use Rattle.tables.specs.Tables.{recording_in}
use Rattle.resolution.proofs.Ranges.{Joining}
use Rattle.resolution.proofs.joining.write_samples.Given as goal

abbrev pub invariant-loop-n : goal.invariant-loop-n
invariant-loop-n l = Joining (recording_in l.b l.t) l.first l.last l.initial.out l.out l.at l.n
