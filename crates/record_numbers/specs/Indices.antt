-- Which of a record's numbers stands where, by the names of include/puddockle.h. Count, start and length are those of a kind of sets.
use Rattle.std.specs.Prelude.{ℕ}

abbrev pub profile : ℕ
profile = 0

abbrev pub compatibility : ℕ
compatibility = 1

abbrev pub level : ℕ
level = 2

abbrev pub complete_representation : ℕ
complete_representation = 3

abbrev pub length_size : ℕ
length_size = 4

abbrev pub sequence_count : ℕ
sequence_count = 5

abbrev pub sequence_start : ℕ
sequence_start = 6

abbrev pub sequence_length : ℕ
sequence_length = 7

abbrev pub picture_count : ℕ
picture_count = 8

abbrev pub picture_start : ℕ
picture_start = 9

abbrev pub picture_length : ℕ
picture_length = 10

abbrev pub trailer : ℕ
trailer = 11

abbrev pub chroma_format : ℕ
chroma_format = 12

abbrev pub luma_depth : ℕ
luma_depth = 13

abbrev pub chroma_depth : ℕ
chroma_depth = 14

abbrev pub extension_count : ℕ
extension_count = 15

abbrev pub extension_start : ℕ
extension_start = 16

abbrev pub extension_length : ℕ
extension_length = 17

-- how many there are
abbrev pub number_count : ℕ
number_count = 18

-- what the number of a trailer says: none belongs there; one does and is absent; one is present
abbrev pub trailer_none : ℕ
trailer_none = 0

abbrev pub trailer_absent : ℕ
trailer_absent = 1

abbrev pub trailer_present : ℕ
trailer_present = 2
