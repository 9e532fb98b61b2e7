-- The line of a sample that is refused, and of one that is good. Assumes nothing.
use Rattle.audit_rules.specs.Auditing.{line_bytes}
use Rattle.audit.proofs.put_line.Goals as goal

pub returns-in-Err : goal.returns-in-Err
unfolding line_bytes
returns-in-Err c = rw (c.put_numbers.ensures, c.in-Err.is)

pub returns-in-Ok : goal.returns-in-Ok
unfolding line_bytes
returns-in-Ok c = rw (c.put_numbers-in-Ok.ensures, c.in-Ok.is)
