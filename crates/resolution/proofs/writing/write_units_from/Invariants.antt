-- The loop's invariant: the units passed are written. The steps fall by what is left. Assumes nothing.
use Rattle.units.specs.Units.{sample}
use Rattle.tables.specs.Tables.{recording_in}
use Rattle.delivery.proofs.Falling.{bound}
use Rattle.delivery.proofs.Folds.{Folded}
use Rattle.resolution.proofs.Puts.{Puts}
use Rattle.resolution.proofs.writing.write_units_from.Given as goal

abbrev pub invariant-loop-d : goal.invariant-loop-d
invariant-loop-d l = Folded (recording_in l.b l.t) l.n.0 (sample l.k l.x) (Puts l.f (recording_in l.b l.t) l.n.0 (sample l.k l.x) l.from l.initial.out l.out l.at) l.c

abbrev pub decreases-loop-d : goal.decreases-loop-d
decreases-loop-d l = bound (recording_in l.b l.t) (sample l.k l.x) l.c
