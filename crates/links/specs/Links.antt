-- Which sample an extractor names (01, 'Resolving', first point; B.3.3). It goes by the layout y alone: no sample's bytes matter.
-- n is the number of the extractor's own sample. 0 is no track and no sample.
--
--   Signed, signed offset        sample_offset: a number of samples ahead or back
--   stepped b s                  that many samples from the bth of a track; 0 is none
--   link_fault n index           23
--   linked_track n index         the linked track; 0 is none
--   at_or_before m n             sample m stands at or before sample n, by decode time
--   base_search n track          the search for the base among the samples of the linked track
--   base n track                 the base, by its number within the linked track; 0 is none
--   sample_named n index offset  the sample named; 0 is none
--   name_fault n index offset    23, 24
use Rattle.std.specs.Prelude.{ℕ, ◌+◌, ◌-◌, Bool, length}
use Rattle.words.specs.Tests.{◌<?◌, ◌≤?◌, ◌≡?◌, out_of, pick, ◌when◌else◌}
use Rattle.words.specs.Refusals.{◌if◌, ◌or_else◌}
use Rattle.words.specs.RefusalNumbers.{bad_track_ref_index, no_sample_named}
use Rattle.words.specs.Lists.{nth}
use Rattle.bundles.specs.Recordings.{Layout, no_reference, track_of, time_of, references_from, samples_in}
use Rattle.links.specs.declared.SearchResult.{SearchResult}
use Rattle.links.specs.Halving.{ended, halving}

-- sample_offset is signed: so many samples ahead, or back.
pub data Signed : Type 0 where
  ahead : ℕ → Signed
  back : ℕ → Signed

-- It is a byte, of which 128 and more are 256 less.
abbrev pub signed : ℕ → Signed
signed offset = pick (offset <? 128) (ahead offset) (back (256 - offset))

-- That many samples from the bth of a track. Before the first is 0, which none has.
abbrev pub stepped : ℕ → Signed → ℕ
stepped b (ahead k) = b + k
stepped b (back k) = b - k when k <? b else 0

module _ (y : Layout) where
  -- 23: track_ref_index 0 or past the last
  unfoldable pub link_fault : ℕ → ℕ → ℕ
  link_fault n index = bad_track_ref_index if out_of (length (references_from y (track_of y n))) index

  -- The linked track: the own track's reference track_ref_index.
  unfoldable pub linked_track : ℕ → ℕ → ℕ
  linked_track n index = (nth (references_from y (track_of y n)) index no_reference).to

  -- The comparison by which the base is found.
  abbrev pub at_or_before : ℕ → ℕ → Bool
  at_or_before m n = time_of y m ≤? time_of y n

  -- The search for the base: the samples of the linked track are halved, by their numbers within the track (02, [5]). 0 is no track:
  -- nothing is searched, and nothing found.
  unfoldable pub base_search : ℕ → ℕ → SearchResult
  base_search n track =
      let samples = samples_in y track in
      pick (track ≡? 0) (ended 0) (halving (λ i. at_or_before (nth samples i 0) n) 0 (length samples))

  -- The base: what the search finds. Where the track's times rise, as in every accepted bundle, that is its last sample with decode
  -- time at or before the own sample's (proofs/Order: base_rising, base_is).
  unfoldable pub base : ℕ → ℕ → ℕ
  base n track = (base_search n track).found

  -- The sample named: sample_offset steps from the base in the linked track, in number order; with no base, or past either end, there
  -- is none.
  unfoldable pub sample_named : ℕ → ℕ → ℕ → ℕ
  sample_named n index offset =
      let track = linked_track n index in
      let b = base n track in
      0 when b ≡? 0 else nth (samples_in y track) (stepped b (signed offset)) 0

  -- 23, then 24: no sample named
  unfoldable pub name_fault : ℕ → ℕ → ℕ → ℕ
  name_fault n index offset =
      link_fault n index or_else
      no_sample_named if sample_named n index offset ≡? 0
