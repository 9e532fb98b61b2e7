-- The invariant: the first i blocks are marked. Assumes nothing.
use Rattle.units.specs.Units.{sample}
use Rattle.marks.proofs.Marking.{Marking}
use Rattle.marks.proofs.mark.Given as goal

abbrev pub invariant-loop-i : goal.invariant-loop-i
invariant-loop-i l = Marking (sample l.k l.z) l.base l.initial.rows l.rows l.s l.i
