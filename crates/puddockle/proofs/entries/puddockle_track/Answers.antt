-- The answer of the function below, given back. Assumes nothing.
use mathlib.Core.Path.{refl}
use Rattle.puddockle.proofs.Returned.{track}
use Rattle.puddockle.proofs.entries.puddockle_track.Goals as goal

pub returns-in-Err : goal.returns-in-Err
returns-in-Err c = track (rw c.in-Err.is at c.track_entry.ensures) c.refused.ensures.0 c.refused.ensures.1 refl refl refl

pub returns-in-Ok : goal.returns-in-Ok
returns-in-Ok c = track (rw c.in-Ok.is at c.track_entry.ensures) refl refl c.kind_number.ensures refl refl
