-- The lines and the tally of the samples so far. Assumes nothing.
use Rattle.tables.specs.Tables.{recording_in}
use Rattle.audit.proofs.Steps.{Auditing}
use Rattle.audit.proofs.audit_samples.Given as goal

abbrev pub invariant-loop-done : goal.invariant-loop-done
invariant-loop-done l = Auditing (recording_in l.b l.t) l.initial.out l.done l.out l.tally
