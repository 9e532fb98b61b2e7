-- The refusals 8 to 13 of the bytes s of a record of kind k, front to back, and what an accepted record means.
-- Stricter than 5.2.4.1: other types in an array are 12, bytes after the record 13, and the fixed bits are judged.
--
--   length_size                                          the length size that the record states
--   head_fault                                           the six bytes before the sequence sets
--   sequence_count, sequences_fault, sequences_end,
--   picture_count, pictures_fault, pictures_end          the sets
--   trailer_of, extensions_at, record_end, follow_fault  what ends the record, after the picture sets
--   record_fault                                         the first refusal
--   fields_of, record_of                                 what an accepted record means
--   read_as, read_record                                 the answer
--
-- A byte is asked for (8) when the walk reaches it. Where sets end is said of any bytes; past a refusal it has no meaning and no use.
use Rattle.std.specs.Prelude.{ℕ, ◌+◌, ◌-◌, not, List, length}
use Rattle.words.specs.Tests.{◌<?◌, ◌≡?◌}
use Rattle.words.specs.RefusalNumbers.{bad_version, bad_length_size, bytes_after_record}
use Rattle.words.specs.Refusals.{◌if◌, ◌or_else◌, Answer, ok, ◌at_place◌, ◌and_then◌}
use Rattle.words.specs.Bytes.{byte_at}
use Rattle.numbers.specs.Kinds.{kind_of, on_kind}
use Rattle.numbers.specs.declared.Kind.{Kind}
use Rattle.sets.specs.Sets.{sets_fault, sets_end}
use Rattle.record_rules.specs.Layout.{version, version_at, profile_at, compatibility_at, level_at, length_size_at, count_at, head_size}
use Rattle.record_rules.specs.Layout.{bad_size, record_layout, value_in, picture_types, complete_flag, flag_in, missing, byte_fault}
use Rattle.record_rules.specs.Trailers.{extension_types, ending, ending_of}
use Rattle.record_rules.specs.declared.Trailer.{Trailer}
use Rattle.record_rules.specs.declared.Fields.{Fields}
use Rattle.record_rules.specs.declared.Record.{Record}

module _ (k : Kind) (s : List ℕ) where
  -- Version, profile, compatibility, level; then the length size and the number of sequence sets, each with its fixed bits.
  abbrev pub length_size : ℕ
  length_size = value_in (record_layout k).length_size (byte_at s length_size_at) + 1

  unfoldable pub head_fault : ℕ
  head_fault =
      missing s version_at or_else bad_version if not (byte_at s version_at ≡? version) or_else
      byte_fault s (record_layout k).length_size length_size_at or_else bad_length_size if length_size ≡? bad_size or_else
      byte_fault s (record_layout k).count count_at

  -- The sequence sets, the number of picture sets, and the picture sets.
  abbrev pub sequence_count : ℕ
  sequence_count = value_in (record_layout k).count (byte_at s count_at)

  abbrev pub sequences_fault : ℕ
  sequences_fault = sets_fault (record_layout k).sequence s sequence_count head_size

  unfoldable pub sequences_end : ℕ
  sequences_end = sets_end s sequence_count head_size

  abbrev pub picture_count : ℕ
  picture_count = byte_at s sequences_end

  abbrev pub pictures_fault : ℕ
  pictures_fault = missing s sequences_end or_else sets_fault picture_types s picture_count (sequences_end + 1)

  unfoldable pub pictures_end : ℕ
  pictures_end = sets_end s picture_count (sequences_end + 1)

  -- What ends the record: its bytes before its sets, and the sets.
  abbrev pub trailer_of : Trailer
  trailer_of = ending_of k s pictures_end

  abbrev pub extensions_at : ℕ
  extensions_at = pictures_end + length (ending trailer_of).head

  abbrev pub record_end : ℕ
  record_end = sets_end s (ending trailer_of).sets extensions_at

  abbrev pub follow_fault : ℕ
  follow_fault = (ending trailer_of).fault s pictures_end or_else sets_fault extension_types s (ending trailer_of).sets extensions_at

  unfoldable pub record_fault : ℕ
  record_fault =
      head_fault or_else
      sequences_fault or_else
      pictures_fault or_else
      follow_fault or_else
      bytes_after_record if record_end <? length s

  -- What an accepted record means.
  abbrev pub fields_of : Fields
  fields_of =
      record {
        profile = byte_at s profile_at;
        compatibility = byte_at s compatibility_at;
        level = byte_at s level_at;
        complete = flag_in (record_layout k).flags complete_flag (byte_at s length_size_at);
        length_size = length_size;
        sequences = sequence_count;
        pictures = picture_count;
        trailer = trailer_of;
      }

  abbrev pub record_of : Record
  record_of =
      record {
        fields = fields_of;
        sequences = record { start = record { 0 = head_size }; len = sequences_end - head_size };
        pictures = record { start = record { 0 = sequences_end + 1 }; len = pictures_end - (sequences_end + 1) };
        extensions = record { start = record { 0 = extensions_at }; len = record_end - extensions_at };
      }

  unfoldable pub read_as : Answer Record
  read_as = record_fault at_place 0 and_then ok record_of

-- A record alone: an unknown kind is 4, and every place is 0.
unfoldable pub read_record : ℕ → List ℕ → Answer Record
read_record kind s = on_kind (kind_of kind) (λ k. read_as k s)
