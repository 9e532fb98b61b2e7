-- Where track entries stand. Assumes nothing.
--
--   place_at    the entry of a track, by the walk over those before it
use Prim.Native.Nat.{ℕ, zero, suc, ◌-◌, ◌≤◌, ◌<◌}
use mathlib.Core.Path.{◌≡◌}
use mathlib.Core.List.{List}
use native.Mathlib.Omega.{arith}
use native.Mathlib.Numerals.{unary_clauses}
use Rattle.words.specs.Lists.{nth}
use Rattle.words.specs.Walks.{skip}
use Rattle.words.proofs.Entries.{entries_at_lem}
use Rattle.bundles.specs.Tracks.{track_count, tracks_at, track_end, track_places}

pub place_at : (b : List ℕ) (k : ℕ) → 0 < k → k ≤ track_count b → nth (track_places b) k 0 ≡ skip (track_end b) (k - 1) (tracks_at b)
unfolding nth
place_at b zero h l = absurd (omega arith)
place_at b (suc k) h l = simp unary_clauses (entries_at_lem (track_end b) (track_count b) (tracks_at b) k (omega arith))
