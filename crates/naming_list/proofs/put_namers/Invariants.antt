-- The loop's invariant: entries of the units so far are counted, and written where there is room for all. Assumes nothing.
use Prim.Native.Nat.{◌-◌}
use lib.ListN.{length}
use Rattle.units.specs.Units.{sample}
use Rattle.tables.specs.Tables.{layout_in}
use Rattle.naming_list.proofs.Namers.{Looking}
use Rattle.naming_list.proofs.put_namers.Given as goal

abbrev pub invariant-loop-p : goal.invariant-loop-p
invariant-loop-p l = Looking (layout_in l.t) l.s.0 l.n.0 (sample l.k l.x) l.initial.out l.at l.p l.count l.out

abbrev pub decreases-loop-p : goal.decreases-loop-p
decreases-loop-p l = length l.x - l.p
