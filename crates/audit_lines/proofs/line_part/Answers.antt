-- The line, where it is there whole. Assumes nothing.
use native.Mathlib.Omega.{arith}
use mathlib.Core.Path.{sym}
use Prim.Native.Nat.{◌-◌, ◌*◌}
use Rattle.audit_rules.specs.Auditing.{line_size}
use native.Mathlib.Nat.{add-sub_cancel_left}
use Rattle.audit_lines.proofs.Reading.{there_none, there_past, there_is}
use Rattle.audit_lines.proofs.line_part.Goals as goal

pub returns-then-m-eq0 : goal.returns-then-m-eq0
returns-then-m-eq0 c = sym (there_none _ _ c.if-m-eq0.true)

pub returns-then-lines-m : goal.returns-then-lines-m
returns-then-lines-m c = let a = c.args in sym (there_past a.lines.now a.n.0 c.if-m-eq0.false (omega arith))

pub returns : goal.returns
returns c = let a = c.args in rw (there_is a.lines.now a.n.0 c.if-m-eq0.false (omega arith), add-sub_cancel_left (line_size * (a.n.0 - 1)) line_size)
