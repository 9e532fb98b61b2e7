-- The sizes in bytes of a bundle's fields (01, 'The bundle'), and where a field stands in its entry.
--
--   track_count_size                                  section one: the count of tracks
--   kind_size, record_length_size, track_head_size    a track: kind, record length; both before the record
--   reference_count_size                              section two: the count of references
--   track_number_size, reference_size                 a track number; a reference: from-track, to-track
--   sample_count_size                                 section three: the count of samples
--   time_size, sample_length_size, sample_entry_size  a sample's entry: track, decode time, length
--   byte_count_size                                   section four: the count of bytes
use Rattle.std.specs.Prelude.{ℕ, ◌+◌}

-- section one
abbrev pub track_count_size : ℕ
track_count_size = 1

abbrev pub kind_size : ℕ
kind_size = 1

abbrev pub record_length_size : ℕ
record_length_size = 2

abbrev pub record_length_offset : ℕ
record_length_offset = kind_size

abbrev pub track_head_size : ℕ
track_head_size = record_length_offset + record_length_size

-- section two
abbrev pub reference_count_size : ℕ
reference_count_size = 1

abbrev pub track_number_size : ℕ
track_number_size = 1

abbrev pub to_offset : ℕ
to_offset = track_number_size

abbrev pub reference_size : ℕ
reference_size = to_offset + track_number_size

-- section three
abbrev pub sample_count_size : ℕ
sample_count_size = 2

abbrev pub time_size : ℕ
time_size = 8

abbrev pub sample_length_size : ℕ
sample_length_size = 4

abbrev pub time_offset : ℕ
time_offset = track_number_size

abbrev pub length_offset : ℕ
length_offset = time_offset + time_size

abbrev pub sample_entry_size : ℕ
sample_entry_size = length_offset + sample_length_size

-- section four
abbrev pub byte_count_size : ℕ
byte_count_size = 4
