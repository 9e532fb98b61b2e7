-- The loop's invariant: the walk over the tracks has passed some of them and come to the place p, and their length sizes are put.
-- Assumes nothing.
use Rattle.bundles.specs.Tracks.{tracks_at, track_end, track_fault}
use Rattle.words.proofs.Entries.{Walked}
use Rattle.bundles.proofs.Checking.{Kept}
use Rattle.bundles.proofs.check_tracks.Given as goal

abbrev pub invariant-loop-size : goal.invariant-loop-size
invariant-loop-size l = Walked (track_end l.b) (track_fault l.b) (tracks_at l.b) l.n l.size-index l.p × Kept l.b l.size-index l.size-items
