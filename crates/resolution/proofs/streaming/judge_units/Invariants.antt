-- The loop's invariant: no unit passed is refused, and the size is the length of their stream. The steps fall by what is left. Assumes nothing.
use Rattle.units.specs.Units.{sample}
use Rattle.tables.specs.Tables.{recording_in}
use Rattle.delivery.proofs.Falling.{bound}
use Rattle.delivery.proofs.Folds.{Folded}
use Rattle.resolution.proofs.Streams.{Judges}
use Rattle.resolution.proofs.streaming.judge_units.Given as goal

abbrev pub invariant-loop-d : goal.invariant-loop-d
invariant-loop-d l = Folded (recording_in l.b l.t) l.n.0 (sample l.k l.x) (Judges (recording_in l.b l.t) l.n.0 (sample l.k l.x) l.size) l.c

abbrev pub decreases-loop-d : goal.decreases-loop-d
decreases-loop-d l = bound (recording_in l.b l.t) (sample l.k l.x) l.c
