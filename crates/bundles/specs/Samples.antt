-- Section three of a bundle b: samples (01, 'The bundle', 3). The count; each: track, decode time, length.
-- Entries have one size and are numbered from 1: entry n is sample n's. An entry is judged beside the one before it.
--
--   order_fault e f                     6: whether the entry f may not come after the entry e
--   entry_count b                       the count
--   entries_at b, entry_at b n          where the first entry stands, and entry n
--   track b p, time b p, length_at b p  what the entry at p says
--   entry_on b p                        its track and its decode time
--   entry_fault b n                     the refusal of entry n: 2 or 6
--   samples_verdict b                   the section's first refusal
--   sample_entries b, lengths b         what it means: the entries, and the samples' lengths
--   byte_count_at b                     where section four starts
use Rattle.std.specs.Prelude.{ℕ, ◌+◌, ◌-◌, ◌*◌, List, map, ◌&&◌}
use Rattle.words.specs.Tests.{◌<?◌, ◌≤?◌, ◌≡?◌, pick}
use Rattle.words.specs.RefusalNumbers.{bad_track_or_time}
use Rattle.words.specs.Refusals.{◌if◌, ◌or_else◌, Verdict, ◌and_then◌, ◌at_place◌, first}
use Rattle.words.specs.Lists.{upto}
use Rattle.words.specs.Bytes.{big}
use Rattle.bundles.specs.Limits.{cut, count_fault, sample_most}
use Rattle.bundles.specs.Fields.{track_number_size, sample_count_size, time_size, sample_length_size}
use Rattle.bundles.specs.Fields.{time_offset, length_offset, sample_entry_size}
use Rattle.bundles.specs.Recordings.{Entry}
use Rattle.bundles.specs.References.{no_such_track, samples_at}

-- 6: after the entry e, the entry f has no lower track, and in the same track a later time
unfoldable pub order_fault : Entry → Entry → ℕ
order_fault e f =
    bad_track_or_time if f.track <? e.track or_else
    bad_track_or_time if (f.track ≡? e.track) && (f.time ≤? e.time)

module _ (b : List ℕ) where
  abbrev pub entry_count : ℕ
  entry_count = big b (samples_at b) sample_count_size

  -- where the first entry stands, and entry n
  abbrev pub entries_at : ℕ
  entries_at = samples_at b + sample_count_size

  abbrev pub entry_at : ℕ → ℕ
  entry_at n = entries_at + (n - 1) * sample_entry_size

  -- what the entry at p says
  abbrev pub track : ℕ → ℕ
  track p = big b p track_number_size

  abbrev pub time : ℕ → ℕ
  time p = big b (p + time_offset) time_size

  abbrev pub length_at : ℕ → ℕ
  length_at p = big b (p + length_offset) sample_length_size

  abbrev pub entry_on : ℕ → Entry
  entry_on p = record { track = track p; time = time p }

  -- Entry n is there (2), its track exists, and it comes after entry n - 1 (6); the first has none before it.
  unfoldable pub entry_fault : ℕ → ℕ
  entry_fault n =
      cut b (entry_at n) sample_entry_size or_else
      bad_track_or_time if no_such_track b (track (entry_at n)) or_else
      pick (n ≡? 1) 0 (order_fault (entry_on (entry_at (n - 1))) (entry_on (entry_at n)))

  abbrev pub entry_numbers : List ℕ
  entry_numbers = upto entry_count

  unfoldable pub samples_verdict : Verdict
  samples_verdict =
      count_fault b (samples_at b) sample_count_size 0 sample_most at_place samples_at b
      and_then first (λ n. entry_fault n at_place entry_at n) entry_numbers

  -- what the entries say, and the samples' lengths
  unfoldable pub sample_entries : List Entry
  sample_entries = map (λ n. entry_on (entry_at n)) entry_numbers

  unfoldable pub lengths : List ℕ
  lengths = map (λ n. length_at (entry_at n)) entry_numbers

  -- where section four starts
  unfoldable pub byte_count_at : ℕ
  byte_count_at = entries_at + entry_count * sample_entry_size
