-- The answer of the function below, given back. Assumes nothing.
use mathlib.Core.Path.{refl}
use Rattle.puddockle.proofs.Returned.{output, tally}
use Rattle.puddockle.proofs.report.puddockle_audit.Goals as goal

pub returns-in-Err : goal.returns-in-Err
returns-in-Err c = (output (rw c.in-Err.is at c.audit.ensures.0) c.refused.ensures.0 c.refused.ensures.1 refl, tally (rw c.in-Err.is at c.audit.ensures.1) refl refl refl)

pub returns-in-Ok : goal.returns-in-Ok
returns-in-Ok c = (output (rw c.in-Ok.is at c.audit.ensures.0) refl refl refl, tally (rw c.in-Ok.is at c.audit.ensures.1) refl refl refl)
