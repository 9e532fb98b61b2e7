-- The answer of the function below, given back. Assumes nothing.
use mathlib.Core.Path.{refl}
use Rattle.puddockle.proofs.Returned.{reference}
use Rattle.puddockle.proofs.entries.puddockle_reference.Goals as goal

pub returns-in-Err : goal.returns-in-Err
returns-in-Err c = reference (rw c.in-Err.is at c.reference_entry.ensures) c.refused.ensures.0 c.refused.ensures.1 refl refl

pub returns-in-Ok : goal.returns-in-Ok
returns-in-Ok c = reference (rw c.in-Ok.is at c.reference_entry.ensures) refl refl refl refl
