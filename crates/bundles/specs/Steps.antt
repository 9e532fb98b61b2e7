-- What the steps of the check say to each other.
--
--   LengthSizes b sizes      sizes holds the length size of each track
--   track_read b p           what is read of the track entry at p
--   section_of r             a section's answer
--   TracksChecked b r sizes  what the check of section one answers
use Rattle.std.specs.Prelude.{ℕ, ◌≤◌, ◌<◌, ◌≡◌, List, Err, Ok, Result}
use Rattle.words.specs.Refusals.{Answer, refused, ok, ◌and_then◌}
use Rattle.words.specs.Bytes.{byte_at}
use Rattle.bundles.specs.Tracks.{track_count, track_end, size_at, tracks_verdict, references_at}
use Rattle.bundles.specs.References.{length_size_on}
use Rattle.bundles.specs.declared.TrackRead.{TrackRead}
use Rattle.numbers.specs.declared.Refusal.{Refusal}

-- sizes holds at k the length size of track k
pub record LengthSizes (b sizes : List ℕ) : Type 0 where
  pub at : (k : ℕ) → 0 < k → k ≤ track_count b → byte_at sizes k ≡ length_size_on b k

-- what is read of the track entry at p
abbrev pub track_read : List ℕ → ℕ → TrackRead
track_read b p = record { size = size_at b p; end = track_end b p }

abbrev pub section_of : Result ℕ Refusal → Answer ℕ
section_of (Err r) = refused r.number r.place.0
section_of (Ok n) = ok n

-- section one: the answer, and the length sizes of an accepted one
pub record TracksChecked (b : List ℕ) (r : Result ℕ Refusal) (sizes : List ℕ) : Type 0 where
  pub answer : section_of r ≡ (tracks_verdict b and_then ok (references_at b))
  pub kept : tracks_verdict b ≡ ok tt → LengthSizes b sizes
