-- Past the end there is no byte, and the type reads as 0. Assumes nothing.
use native.Mathlib.Omega.{arith}
use mathlib.Core.Path.{sym}
use Rattle.units.proofs.Units.{type_past}
use Rattle.units.specs.Units.{sample, type}
use Rattle.units.proofs.type_at.Goals as goal
use Rattle.units.proofs.type_at.Goals.{then-s-at-via-then-s-at, then-s-at-via-else-s-at+then-s-at-2}

pub returns-then-s-at : goal.returns-then-s-at
returns-then-s-at c =
    let n = c.bytes-n.ensures.0 in
    sym (type_past (sample c.args.k c.args.s.now) c.args.at.0 (elim c.then-s-at.branch [
      | then-s-at-via-then-s-at w ↦ omega arith
      | then-s-at-via-else-s-at+then-s-at-2 w ↦ omega arith
    ]))

pub returns : goal.returns
unfolding type
returns c = rw (← c.bytes-n.ensures.0)
