-- The answer of the function below, given back. Assumes nothing.
use mathlib.Core.Path.{refl}
use Rattle.puddockle.proofs.Returned.{outputs}
use Rattle.puddockle.proofs.salvaged.puddockle_salvage.Goals as goal

pub returns-in-Err : goal.returns-in-Err
returns-in-Err c = outputs (rw c.in-Err.is at c.salvage.ensures) c.refused.ensures.0 c.refused.ensures.1 refl

pub returns-in-Ok : goal.returns-in-Ok
returns-in-Ok c = outputs (rw c.in-Ok.is at c.salvage.ensures) refl refl refl
