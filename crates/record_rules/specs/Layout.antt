-- The bytes of a decoder configuration record (5.2.4.1.1, A.5.2.2; 01, 'Configuration records'), shared by reading and writing.
-- A byte is flags, fixed bits and a value, from the top. What the kinds differ in is one row of `record_layout` each.
--
--   version, version_at .. count_at, head_size  the bytes before the sequence sets
--   bad_size                                    the length size that no record may state
--   n ones v bits, n zeros v bits               a byte of n fixed bits and a value of v bits; what stands above them are flags
--   fixed_in h b, value_in h b                  the fixed bits and the value of the byte b by the shape h
--   byte_of h v, is_byte v                      the byte of a value, without flags; whether a number fits a byte
--   SoundShape h                                what holds of every shape
--   record_layout k                             the row of kind k
--   picture_types                               the types of picture sets
--   bit f, flag_of has n, flag_fits has f       a flag as a bit, as it is read, and whether it fits
--   complete_flag                               which flag complete_representation is: the first, 0
--   flag_in n i b                               flag i, from 0, of a byte that begins with n flags
--   flags_byte i fs, flags_fit n i fs           flags from i on: what they count in a byte, and whether a byte of n flags has them
--   missing s p, byte_fault s h p               the refusal of a byte that must be there, and of one with fixed bits
use Rattle.std.specs.Prelude.{ℕ, ◌+◌, ◌-◌, ◌*◌, ◌/◌, ◌%◌, ◌^◌, ◌<◌, ◌≤◌, Bool, true, false, ◌&&◌, not, List, [], ◌∷◌, length}
use Rattle.words.specs.Tests.{◌<?◌, ◌≤?◌, ◌≡?◌, pick}
use Rattle.words.specs.RefusalNumbers.{record_cut, wrong_fixed_bits}
use Rattle.words.specs.Refusals.{◌if◌, ◌or_else◌}
use Rattle.words.specs.Bytes.{byte_at}
use Rattle.numbers.specs.declared.Kind.{Kind}
use Rattle.numbers.specs.declared.Kind.TheVariants.{Avc, Svc}
use Rattle.sets.specs.Sets.{sequence_set_type, subset_set_type, picture_set_type}
use Rattle.sets.specs.declared.SetTypes.{SetTypes}
use Rattle.record_rules.specs.declared.Shape.{Shape}
use Rattle.record_rules.specs.declared.RecordLayout.{RecordLayout}
use Rattle.record_rules.specs.declared.Flag.{Flag}
use Rattle.record_rules.specs.declared.Flag.TheVariants.{Absent, Clear, Set}

infix 60 ◌ones◌bits ◌zeros◌bits
-- The bytes before the sequence sets, one each: version, profile, compatibility, level, length size, number of sequence sets.
abbrev pub version : ℕ
version = 1

abbrev pub version_at : ℕ
version_at = 0

abbrev pub profile_at : ℕ
profile_at = 1

abbrev pub compatibility_at : ℕ
compatibility_at = 2

abbrev pub level_at : ℕ
level_at = 3

abbrev pub length_size_at : ℕ
length_size_at = 4

abbrev pub count_at : ℕ
count_at = 5

abbrev pub head_size : ℕ
head_size = 6

abbrev pub bad_size : ℕ
bad_size = 3

-- A byte by its bits: so many fixed bits, all 1 or all 0, then those of a value. The numbers of a shape follow from them.
abbrev pub ◌ones◌bits : ℕ → ℕ → Shape
n ones v bits = record { unit = 2 ^ (n + v); fixed = 2 ^ n - 1; low = 2 ^ v }

abbrev pub ◌zeros◌bits : ℕ → ℕ → Shape
n zeros v bits = record { unit = 2 ^ (n + v); fixed = 0; low = 2 ^ v }

-- the fixed bits and the value of a byte, and the byte of a value
abbrev pub fixed_in : Shape → ℕ → ℕ
fixed_in h b = b % h.unit / h.low

abbrev pub value_in : Shape → ℕ → ℕ
value_in h b = b % h.unit % h.low

abbrev pub byte_of : Shape → ℕ → ℕ
byte_of h v = h.fixed * h.low + v

abbrev pub is_byte : ℕ → Bool
is_byte v = v <? 2 ^ 8

-- fixed bits and value lie below the flags
pub record SoundShape (h : Shape) : Type 0 where
  pub unit : 0 < h.unit
  pub low : 0 < h.low
  pub fixed : h.fixed * h.low + h.low ≤ h.unit
  pub byte : h.unit ≤ 256

-- What the kinds differ in: the byte of the length size less one and how many flags it begins with, the byte of the number of sequence
-- sets, the types of these, and whether a trailer belongs to the high profiles.
abbrev pub record_layout : Kind → RecordLayout
record_layout Avc =
    record {
      flags = 0;
      length_size = 6 ones 2 bits;
      count = 3 ones 5 bits;
      sequence = record { one = sequence_set_type; other = sequence_set_type };
      trailer = true;
    }
record_layout Svc =
    record {
      flags = 1;
      length_size = 5 ones 2 bits;
      count = 1 zeros 7 bits;
      sequence = record { one = sequence_set_type; other = subset_set_type };
      trailer = false;
    }

abbrev pub picture_types : SetTypes
picture_types = record { one = picture_set_type; other = picture_set_type }

-- A flag: as a bit; as it is read from one, where a record has it; and whether it is given exactly where a record has it.
abbrev pub bit : Flag → ℕ
bit Absent = 0
bit Clear = 0
bit Set = 1

abbrev pub flag_of : Bool → ℕ → Flag
flag_of false n = Absent
flag_of true n = pick (n ≡? 0) Clear Set

abbrev pub flag_fits : Bool → Flag → Bool
flag_fits false Absent = true
flag_fits false Clear = false
flag_fits false Set = false
flag_fits true Absent = false
flag_fits true Clear = true
flag_fits true Set = true

abbrev pub complete_flag : ℕ
complete_flag = 0

-- Flags of a byte, the first on top: flag i counts 128, 64, ..; a byte of n flags has the first n.
abbrev pub flag_in : ℕ → ℕ → ℕ → Flag
flag_in n i b = flag_of (i <? n) (b / 2 ^ (7 - i) % 2)

unfoldable pub flags_byte : ℕ → List Flag → ℕ
flags_byte i [] = 0
flags_byte i (f ∷ fs) = bit f * 2 ^ (7 - i) + flags_byte (i + 1) fs

unfoldable pub flags_fit : ℕ → ℕ → List Flag → Bool
flags_fit n i [] = true
flags_fit n i (f ∷ fs) = flag_fits (i <? n) f && flags_fit n (i + 1) fs

module _ (s : List ℕ) where
  -- 8: the byte at p is not there
  abbrev pub missing : ℕ → ℕ
  missing p = record_cut if length s ≤? p

  -- a byte of a shape: it is there (8), with its fixed bits (10)
  unfoldable pub byte_fault : Shape → ℕ → ℕ
  byte_fault h p = missing p or_else wrong_fixed_bits if not (fixed_in h (byte_at s p) ≡? h.fixed)
