-- What is needed of a layout so that the samples of a track are neighbours, and the base is where the laws say. Every accepted bundle's
-- has it (6).
--
--   TracksRise y    track numbers never fall
--   TrackRises y k  within track k times strictly rise
--   TimesRise y     track numbers never fall, tracks are numbered from 1, and within each track times strictly rise
--   before y k      the last sample of the tracks before track k; 0 is none
--   up_to y k       the last sample of the tracks up to track k
--   base_sample     the base, by its number in the recording; 0 is none
--   Base n k        there is a base in track k: it is at or before, and no later sample of the track is
--   Steps           the sample named, by signed steps from the base
use Rattle.std.specs.Prelude.{ℕ, ◌+◌, ◌-◌, ◌≤◌, ◌<◌, ◌≡◌, true, false}
use mathlib.Core.List.{Memᴰ}
use Rattle.words.specs.Tests.{◌<?◌, ◌≤?◌}
use Rattle.words.specs.Lists.{nth, upto, last_that}
use Rattle.bundles.specs.Recordings.{Layout, sample_count, track_of, time_of, samples_in}
use Rattle.links.specs.Links.{linked_track, at_or_before, base, sample_named}

module _ (y : Layout) where
  abbrev pub TracksRise : Type 0
  TracksRise = (i j : ℕ) → 0 < i → i < j → j ≤ sample_count y → track_of y i ≤ track_of y j

  abbrev pub TrackRises : ℕ → Type 0
  TrackRises k = (i j : ℕ) → 0 < i → i < j → j ≤ sample_count y → track_of y i ≡ k → track_of y j ≡ k → time_of y i < time_of y j

  pub record TimesRise : Type 0 where
    pub tracks : TracksRise
    pub numbered : (i : ℕ) → 0 < i → i ≤ sample_count y → 0 < track_of y i
    pub times : (k : ℕ) → TrackRises k

  unfoldable pub before : ℕ → ℕ
  before k = last_that (λ m. track_of y m <? k) (upto (sample_count y))

  unfoldable pub up_to : ℕ → ℕ
  up_to k = last_that (λ m. track_of y m ≤? k) (upto (sample_count y))

  abbrev pub base_sample : ℕ → ℕ → ℕ
  base_sample n k = nth (samples_in y k) (base y n k) 0

  pub record Base (n k : ℕ) : Type 0 where
    pub there : Memᴰ (base_sample n k) (samples_in y k)
    pub passes : at_or_before y (base_sample n k) n ≡ true
    pub last : (m : ℕ) → Memᴰ m (samples_in y k) → base_sample n k < m → at_or_before y m n ≡ false

-- The sample named from sample n by an index and a sample_offset, where there is a base: what a byte says is 256 less from 128 on.
-- The linked track's samples are those after `before`, up to `up_to`.
module _ (y : Layout) (n index offset : ℕ) where
  abbrev base_of : ℕ
  base_of = base_sample y n (linked_track y n index)

  abbrev least : ℕ
  least = before y (linked_track y n index)

  abbrev most : ℕ
  most = up_to y (linked_track y n index)

  pub record Steps : Type 0 where
    pub up : offset < 128 → base_of + offset ≤ most → sample_named y n index offset ≡ base_of + offset
    pub past : offset < 128 → most < base_of + offset → sample_named y n index offset ≡ 0
    pub down : 128 ≤ offset → offset ≤ 256 → least + (256 - offset) < base_of → sample_named y n index offset ≡ base_of - (256 - offset)
    pub short : 128 ≤ offset → offset ≤ 256 → base_of ≤ least + (256 - offset) → sample_named y n index offset ≡ 0
