-- Where the sets of a record stand, and a record as the 18 numbers of the C functions (include/puddockle.h), in plain facts. a, c and
-- x are the bytes of its sequence sets, picture sets and extensions. The numbers, from 0 on: profile, compatibility, level,
-- complete_representation, L; count, start and length of the sequence sets, and of the picture sets; the trailer, 0 where none belongs,
-- 1 where it is absent and 2 for one; its chroma_format, luma depth and chroma depth less 8; count, start and length of the extensions.
-- Starts are offsets in the record.
--
--   SetsStand r a c x                        where a record that was read says that its sets stand
--   numbers_for f a c x                      the numbers of a record of fields f
--   FieldsIn ns kind f                       the numbers ns say the fields f of a record of a kind. Starts and lengths are not looked at
--   NumbersRead, NumbersWritten              read as numbers; written from numbers
--   NumbersReadRefused, NumbersWriteRefused  with which number these are refused, all at 0
use Rattle.std.specs.Prelude.{ℕ, ◌+◌, ◌≤◌, ◌<◌, ◌≡◌, List, [], ◌∷◌, ◌⊎◌, length, get_or}
use Rattle.record_rules.specs.declared.Flag.{Flag}
use Rattle.record_rules.specs.declared.Flag.TheVariants as flag
use Rattle.record_rules.specs.declared.Trailer.{Trailer}
use Rattle.record_rules.specs.declared.Trailer.TheVariants.{None, Absent, Present}
use Rattle.record_rules.specs.declared.Fields.{Fields}
use Rattle.record_rules.specs.declared.Record.{Record}
use Rattle.promise_rules.specs.Records.{RecordOf}
use Rattle.promise_rules.specs.Reading.{ReadRefused}

-- a trailer has four bytes before its sets
abbrev pub trailer_head : Trailer → ℕ
trailer_head None = 0
trailer_head Absent = 0
trailer_head (Present t) = 4

pub record SetsStand (r : Record) (a c x : List ℕ) : Type 0 where
  pub sequences : (r.sequences.start.0 ≡ 6) × (r.sequences.len ≡ length a)
  pub pictures : (r.pictures.start.0 ≡ 7 + length a) × (r.pictures.len ≡ length c)
  pub extensions :
      (r.extensions.start.0 ≡ 7 + length a + length c + trailer_head r.fields.trailer) × (r.extensions.len ≡ length x)

abbrev pub flag_number : Flag → ℕ
flag_number flag.Absent = 0
flag_number flag.Clear = 0
flag_number flag.Set = 1

abbrev pub trailer_numbers : Trailer → ℕ → ℕ → List ℕ
trailer_numbers None start len = 0 ∷ 0 ∷ 0 ∷ 0 ∷ 0 ∷ 0 ∷ 0 ∷ []
trailer_numbers Absent start len = 1 ∷ 0 ∷ 0 ∷ 0 ∷ 0 ∷ 0 ∷ 0 ∷ []
trailer_numbers (Present t) start len = 2 ∷ t.format ∷ t.luma ∷ t.chroma ∷ t.extensions ∷ start ∷ len ∷ []

abbrev pub numbers_for : Fields → List ℕ → List ℕ → List ℕ → List ℕ
numbers_for f a c x =
    f.profile ∷ f.compatibility ∷ f.level ∷ flag_number f.complete ∷ f.length_size
    ∷ f.sequences ∷ 6 ∷ length a
    ∷ f.pictures ∷ (7 + length a) ∷ length c
    ∷ trailer_numbers f.trailer (7 + length a + length c + 4) (length x)

module _ (ns : List ℕ) where
  -- an AVC record has no complete_representation, which is said by 0
  pub data FlagIn : ℕ → Flag → Type 0 where
    avc : get_or ns 3 0 ≡ 0 → FlagIn 0 flag.Absent
    clear : get_or ns 3 0 ≡ 0 → FlagIn 1 flag.Clear
    set : get_or ns 3 0 ≡ 1 → FlagIn 1 flag.Set

  pub data TrailerIn : Trailer → Type 0 where
    none : get_or ns 11 0 ≡ 0 → TrailerIn None
    absent : get_or ns 11 0 ≡ 1 → TrailerIn Absent
    present :
        get_or ns 11 0 ≡ 2 →
        TrailerIn
        (Present (record { format = get_or ns 12 0; luma = get_or ns 13 0; chroma = get_or ns 14 0; extensions = get_or ns 15 0 }))

  pub data FieldsIn (kind : ℕ) : Fields → Type 0 where
    fields :
        (flag : Flag) (trailer : Trailer) → 18 ≤ length ns → FlagIn kind flag → TrailerIn trailer →
        FieldsIn kind (record {
          profile = get_or ns 0 0;
          compatibility = get_or ns 1 0;
          level = get_or ns 2 0;
          complete = flag;
          length_size = get_or ns 4 0;
          sequences = get_or ns 5 0;
          pictures = get_or ns 8 0;
          trailer = trailer;
        })

-- the record of fields f and these sets, and room for its numbers
pub record NumbersRead (kind : ℕ) (s : List ℕ) (room : ℕ) (ns : List ℕ) : Type 0 where
  pub fields : Fields
  pub sequences : List ℕ
  pub pictures : List ℕ
  pub extensions : List ℕ
  pub valid : RecordOf fields sequences pictures extensions kind s
  pub numbers : ns ≡ numbers_for fields sequences pictures extensions
  pub fits : 18 ≤ room

pub data NumbersReadRefused (kind : ℕ) (s : List ℕ) (room : ℕ) : ℕ → ℕ → Type 0 where
  bytes : {n p : ℕ} → ReadRefused kind s n p → NumbersReadRefused kind s room n p
  room : (ns : List ℕ) → NumbersRead kind s 18 ns → room < 18 → NumbersReadRefused kind s room 29 0

-- the fields that the numbers say, valid with these sets, and room for the record
pub record NumbersWritten (kind : ℕ) (ns a c x : List ℕ) (s : List ℕ) : Type 0 where
  pub fields : Fields
  pub said : FieldsIn ns kind fields
  pub valid : RecordOf fields a c x kind s

pub data NumbersWriteRefused (kind : ℕ) (ns a c x : List ℕ) (room : ℕ) : ℕ → ℕ → Type 0 where
  kind : (kind ≡ 0 → ⊥) → (kind ≡ 1 → ⊥) → NumbersWriteRefused kind ns a c x room 4 0
  fields :
      (kind ≡ 0) ⊎ (kind ≡ 1) → ((s : List ℕ) → NumbersWritten kind ns a c x s → ⊥) →
      NumbersWriteRefused kind ns a c x room 31 0
  room : (s : List ℕ) → NumbersWritten kind ns a c x s → room < length s → NumbersWriteRefused kind ns a c x room 29 0
