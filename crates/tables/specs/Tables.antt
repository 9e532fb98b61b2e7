-- A table of numbers t, by which a sample's track, time and bytes and a track's kind, length size, references and samples are reached
-- without walking the bundle again. Rows of four numbers: the counts, then the tracks, the references and the samples, each with as many
-- rows as its limit says. A number past the table's end reads as 0, and a count beyond its limit as the limit. So every table says a
-- layout, and together with any bytes it gives a recording: a sample whose bytes do not lie in the bundle has none.
--
--   counts_row, track_row k, reference_row i, sample_row n  the rows
--   table_size n, table_most                                how many numbers a table for n samples needs, and the most
--   cell t row column                                       a number of the table
--   layout_in t                                             the layout that it says
--   recording_in b t                                        the recording that it gives with the bytes b
--   range_in t k                                            the samples of track k: those after `before`, up to `after`
--   numbers_in r                                            their numbers
--   sample_cell t n column                                  a number of the row of sample n
--   start_in t n                                            where the bytes of sample n start
--   kept_count_in t n                                       the count kept for sample n
--   with_kept_count t n v                                   the table with that count set
use Rattle.std.specs.Prelude.{ℕ, zero, suc, ◌+◌, ◌-◌, ◌*◌, List, [], map, ◌&&◌, length, get_or, set}
use Rattle.words.specs.Tests.{◌<?◌, ◌≤?◌, ◌≡?◌, pick}
use Rattle.words.specs.Lists.{upto, last_that}
use Rattle.words.specs.Bytes.{part}
use Rattle.numbers.specs.Kinds.{kind_of}
use Rattle.numbers.specs.Sizes.{length_size_of}
use Rattle.bundles.specs.Limits.{track_most, reference_most, sample_most}
use Rattle.bundles.specs.Recordings.{Track, Reference, Entry, Layout, Recording}
use Rattle.bundles.specs.Tracks.{known_kind, known_size}
use Rattle.tables.specs.declared.SampleRange.{SampleRange}

-- how many numbers a row has
abbrev pub columns : ℕ
columns = 4

-- the row of the counts, of track k, of reference i and of sample n
abbrev pub counts_row : ℕ
counts_row = 0

abbrev pub track_row : ℕ → ℕ
track_row k = k

abbrev pub reference_row : ℕ → ℕ
reference_row i = track_most + i

abbrev pub sample_row : ℕ → ℕ
sample_row n = reference_row reference_most + n

-- how many numbers a table for n samples needs
abbrev pub table_size : ℕ → ℕ
table_size n = sample_row (n + 1) * columns

-- and the largest
abbrev pub table_most : ℕ
table_most = table_size sample_most

-- the columns of the counts
abbrev pub tracks_column : ℕ
tracks_column = 0

abbrev pub references_column : ℕ
references_column = 1

abbrev pub samples_column : ℕ
samples_column = 2

-- of a track; its kind by its number, and `before` is how many samples the tracks before it have
abbrev pub kind_column : ℕ
kind_column = 0

abbrev pub size_column : ℕ
size_column = 1

abbrev pub before_column : ℕ
before_column = 2

-- of a reference
abbrev pub from_column : ℕ
from_column = 0

abbrev pub to_column : ℕ
to_column = 1

-- of a sample: its decode time, where its bytes start in the bundle, how many they are, and a count that the crates above keep for it
abbrev pub time_column : ℕ
time_column = 0

abbrev pub start_column : ℕ
start_column = 1

abbrev pub length_column : ℕ
length_column = 2

abbrev pub kept_count_column : ℕ
kept_count_column = 3

abbrev pub at_most : ℕ → ℕ → ℕ
at_most most n = pick (n ≤? most) n most

-- the numbers of a range of samples
abbrev pub numbers_in : SampleRange → List ℕ
numbers_in r = map (λ i. r.before + i) (upto (r.after - r.before))

module _ (t : List ℕ) where
  unfoldable pub cell : ℕ → ℕ → ℕ
  cell row column = get_or t (row * columns + column) 0

  abbrev pub track_total : ℕ
  track_total = at_most track_most (cell counts_row tracks_column)

  abbrev pub reference_total : ℕ
  reference_total = at_most reference_most (cell counts_row references_column)

  abbrev pub sample_total : ℕ
  sample_total = at_most sample_most (cell counts_row samples_column)

  abbrev pub track_in : ℕ → Track
  track_in k =
      record {
        kind = known_kind (kind_of (cell (track_row k) kind_column));
        length_size = known_size (length_size_of (cell (track_row k) size_column));
      }

  abbrev pub reference_in : ℕ → Reference
  reference_in i = record { from = cell (reference_row i) from_column; to = cell (reference_row i) to_column }

  -- The track of sample n is the last one that has fewer than n samples before it.
  abbrev pub before_in : ℕ → ℕ
  before_in k = cell (track_row k) before_column

  abbrev pub owner_in : ℕ → ℕ
  owner_in n = last_that (λ k. before_in k <? n) (upto track_total)

  abbrev pub sample_entry_in : ℕ → Entry
  sample_entry_in n = record { track = owner_in n; time = cell (sample_row n) time_column }

  unfoldable pub layout_in : Layout
  layout_in =
      record {
        tracks = map track_in (upto track_total);
        references = map reference_in (upto reference_total);
        entries = map sample_entry_in (upto sample_total);
      }

  -- The samples of track k end where a later track's start: the least `before` of the tracks from k + 1 to m.
  unfoldable pub after_in : ℕ → ℕ → ℕ
  after_in k zero = sample_total
  after_in k (suc m) =
      let rest = after_in k m in
      pick ((k <? suc m) && (before_in (suc m) <? rest)) (before_in (suc m)) rest

  unfoldable pub range_in : ℕ → SampleRange
  range_in k =
      pick (k ≡? 0) (record { before = 0; after = 0 })
      (pick (track_total <? k) (record { before = 0; after = 0 })
      (record { before = before_in k; after = after_in k track_total }))

  -- a number of the row of sample n; 0 where there is no such sample
  unfoldable pub sample_cell : ℕ → ℕ → ℕ
  sample_cell n column = pick (n ≡? 0) 0 (pick (sample_total <? n) 0 (cell (sample_row n) column))

  -- where the bytes of sample n start in the bundle
  abbrev pub start_in : ℕ → ℕ
  start_in n = sample_cell n start_column

  abbrev pub kept_count_in : ℕ → ℕ
  kept_count_in n = sample_cell n kept_count_column

-- the count kept for sample n set to v; a table without that number stays as it was
unfoldable pub with_kept_count : List ℕ → ℕ → ℕ → List ℕ
with_kept_count t n v = pick (n ≡? 0) t (pick (sample_total t <? n) t (set t (sample_row n * columns + kept_count_column) v))

-- n bytes of b from p on, or none where they do not lie in b
unfoldable pub inside : List ℕ → ℕ → ℕ → List ℕ
inside b p n = pick (p + n ≤? length b) (part b p n) []

module _ (b t : List ℕ) where
  abbrev pub content_in : ℕ → List ℕ
  content_in n = inside b (cell t (sample_row n) start_column) (cell t (sample_row n) length_column)

  unfoldable pub recording_in : Recording
  recording_in = record { layout = layout_in t; contents = map content_in (upto (sample_total t)) }
