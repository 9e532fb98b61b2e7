-- The answer of the function below, given back. Assumes nothing.
use mathlib.Core.Path.{refl}
use Rattle.puddockle.proofs.Returned.{counts}
use Rattle.puddockle.proofs.entries.puddockle_counts.Goals as goal

pub returns-in-Err : goal.returns-in-Err
returns-in-Err c = counts (rw c.in-Err.is at c.bundle_counts.ensures) c.refused.ensures.0 c.refused.ensures.1 refl refl refl

pub returns-in-Ok : goal.returns-in-Ok
returns-in-Ok c = counts (rw c.in-Ok.is at c.bundle_counts.ensures) refl refl refl refl refl
