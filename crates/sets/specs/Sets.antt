-- Parameter sets in bytes s, each a unit after its 2-byte length (5.2.4.1; 01, 'Configuration records').
--
--   sequence_set_type, subset_set_type, picture_set_type, extension_set_type  types of sets (Table A.1)
--   set_length_size                                                           how many bytes the length before a set has
--   set_end s p                                                               where the set at p ends
--   sets_end s n p                                                            where n sets from p on end
--   header_at s p                                                             the first byte of the unit of the set at p
--   one_of types t                                                            whether the unit type t is one of the types
--   set_fault types s p                                                       the refusal of the set at p: 8 or 12
--   sets_fault types s n p the first refusal of n sets from p on
--   exactly s n          s is n sets, cut by their lengths, and nothing else
--   sets_fit types s n   the same, and none of them is refused
use Rattle.std.specs.Prelude.{ℕ, ◌+◌, List, Bool, ◌||◌, ◌&&◌, not, length}
use Rattle.words.specs.Tests.{◌<?◌, ◌≡?◌}
use Rattle.words.specs.RefusalNumbers.{record_cut, bad_set}
use Rattle.words.specs.Refusals.{◌if◌, ◌or_else◌, first_of}
use Rattle.words.specs.Walks.{entries, skip}
use Rattle.words.specs.Bytes.{byte_at, big}
use Rattle.numbers.specs.Headers.{forbidden_bit, nal_type}
use Rattle.sets.specs.declared.SetTypes.{SetTypes}

-- sequence, subset sequence and picture parameter sets, and sequence parameter set extensions
abbrev pub sequence_set_type : ℕ
sequence_set_type = 7

abbrev pub subset_set_type : ℕ
subset_set_type = 15

abbrev pub picture_set_type : ℕ
picture_set_type = 8

abbrev pub extension_set_type : ℕ
extension_set_type = 13

abbrev pub one_of : SetTypes → ℕ → Bool
one_of types t = (t ≡? types.one) || (t ≡? types.other)

abbrev pub set_length_size : ℕ
set_length_size = 2

module _ (s : List ℕ) where
  abbrev pub set_end : ℕ → ℕ
  set_end p = p + set_length_size + big s p set_length_size

  abbrev pub sets_end : ℕ → ℕ → ℕ
  sets_end n p = skip set_end n p

  abbrev pub header_at : ℕ → ℕ
  header_at p = byte_at s (p + set_length_size)

  unfoldable pub exactly : ℕ → Bool
  exactly n = sets_end n 0 ≡? length s

-- An empty set is 12 even where its bytes end; else all its bytes must be there before 12 is judged: the top bit of the header is 1, or the
-- type, its low five bits, is none of the types.
unfoldable pub set_fault : SetTypes → List ℕ → ℕ → ℕ
set_fault types s p =
    record_cut if length s <? p + set_length_size or_else
    bad_set if big s p set_length_size ≡? 0 or_else
    record_cut if length s <? set_end s p or_else
    bad_set if forbidden_bit (header_at s p) or_else
    bad_set if not (one_of types (nal_type (header_at s p)))

abbrev pub sets_fault : SetTypes → List ℕ → ℕ → ℕ → ℕ
sets_fault types s n p = first_of (set_fault types s) (entries (set_end s) n p)

unfoldable pub sets_fit : SetTypes → List ℕ → ℕ → Bool
sets_fit types s n = (sets_fault types s n 0 ≡? 0) && exactly s n
