-- By whether the line is there, then by its three numbers. Assumes nothing.
use mathlib.Core.Path.{sym}
use Rattle.audit_lines.proofs.Reading.{first_byte, says_gone, says_there}
use Rattle.audit_lines.proofs.line_of.Goals as goal

pub returns-then-line-eq0 : goal.returns-then-line-eq0
returns-then-line-eq0 c = rw (← c.line_part-line.ensures) (sym (says_gone _ _ c.if-line-eq0.true))

pub returns : goal.returns
returns c = let s = c.line_part-line.result.now in
    rw (← c.line_part-line.ensures, says_there s c.args.size c.if-line-eq0.false, first_byte s, ← c.byte-number.ensures, ← c.number-place.ensures, ← c.number-units.ensures) c.line_from.ensures
