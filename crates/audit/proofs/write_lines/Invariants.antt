-- The invariant: the lines of the samples up to n are written. Assumes nothing.
use Rattle.audit.proofs.Lining.{Lining}
use Rattle.audit.proofs.write_lines.Given as goal

abbrev pub invariant-loop-n : goal.invariant-loop-n
invariant-loop-n l = Lining l.t l.skipped l.n-end l.initial.lines l.lines l.n l.at
