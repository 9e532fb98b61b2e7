-- The loop's invariant: the unit looked for is the one at `left` of those that are left. Assumes nothing.
use Prim.Native.Nat.{◌-◌}
use Rattle.units.specs.Units.{sample}
use Rattle.copies.proofs.Plain.{Finding}
use Rattle.copies.proofs.place_among.Given as goal

abbrev pub invariant-loop-q : goal.invariant-loop-q
invariant-loop-q l = Finding (sample l.k l.z) l.from l.to l.i l.q l.left

abbrev pub decreases-loop-q : goal.decreases-loop-q
decreases-loop-q l = l.to - l.q
