-- The loop's invariant: the units passed are not yet i. The steps fall by what is left. Assumes nothing.
use Rattle.units.specs.Units.{sample}
use Rattle.tables.specs.Tables.{recording_in}
use Rattle.delivery.proofs.Falling.{bound}
use Rattle.delivery.proofs.Folds.{Folded}
use Rattle.delivered_unit.proofs.Seeks.{Seeks}
use Rattle.delivered_unit.proofs.finding.find.Given as goal

abbrev pub invariant-loop-d : goal.invariant-loop-d
invariant-loop-d l = Folded (recording_in l.b l.t) l.n.0 (sample l.k l.x) (Seeks l.i l.left) l.c

abbrev pub decreases-loop-d : goal.decreases-loop-d
decreases-loop-d l = bound (recording_in l.b l.t) (sample l.k l.x) l.c
