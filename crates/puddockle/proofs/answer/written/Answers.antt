-- A refusal or a count. Assumes nothing.
use mathlib.Core.Path.{refl}
use Rattle.puddockle.proofs.answer.written.Goals as goal

pub returns-in-Err : goal.returns-in-Err
returns-in-Err c = rw c.in-Err.is (c.refused.ensures.0, c.refused.ensures.1, refl)

pub returns-in-Ok : goal.returns-in-Ok
returns-in-Ok c = rw c.in-Ok.is (refl, refl, refl)
