-- The loop's invariant: p is the place of the track entry after the first i. Assumes nothing.
use mathlib.Core.Path.{◌≡◌}
use Rattle.words.specs.Walks.{skip}
use Rattle.bundles.specs.Tracks.{tracks_at, track_end}
use Rattle.filling.proofs.references_at.Given as goal

abbrev pub invariant-loop : goal.invariant-loop
invariant-loop l = l.p ≡ skip (track_end l.b) l.counter (tracks_at l.b)
