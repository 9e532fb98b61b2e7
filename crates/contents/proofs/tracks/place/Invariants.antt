-- The loop's invariant: p is the place of the track entry i. Assumes nothing.
use mathlib.Core.Path.{◌≡◌}
use Prim.Native.Nat.{◌-◌, ◌≤◌, ◌<◌}
use Rattle.words.specs.Walks.{skip}
use Rattle.bundles.specs.Tracks.{tracks_at, track_end}
use Rattle.contents.proofs.tracks.place.Given as goal

abbrev pub invariant-loop-i : goal.invariant-loop-i
invariant-loop-i l = (0 < l.i) × (l.i ≤ l.k) × (l.p ≡ skip (track_end l.b) (l.i - 1) (tracks_at l.b))
