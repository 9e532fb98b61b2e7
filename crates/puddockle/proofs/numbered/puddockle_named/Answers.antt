-- The answer of the function below, given back. Assumes nothing.
use mathlib.Core.Path.{refl}
use Rattle.puddockle.proofs.Returned.{named}
use Rattle.puddockle.proofs.numbered.puddockle_named.Goals as goal

pub returns-in-Err : goal.returns-in-Err
returns-in-Err c = named (rw c.in-Err.is at c.named_sample-found.ensures) c.refused.ensures.0 c.refused.ensures.1 refl

pub returns-in-Ok : goal.returns-in-Ok
returns-in-Ok c = named (rw c.in-Ok.is at c.named_sample-found.ensures) refl refl refl
