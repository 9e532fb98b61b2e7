-- The bytes that given fields and sets make, and whether these fit a record (31 otherwise; 01, 'Configuration records').
-- The lent sets: of sequence sets, of picture sets and of the trailer's, each set after its 2-byte length.
--
--   flags_of f                                      the flags of a record, the first first
--   head_bytes k f                                  the six bytes before the sequence sets
--   record_bytes k f sequences pictures extensions  the record's bytes
--   placed f sequences pictures extensions          the fields, and where their sets stand in these bytes
--   numbers_fit k f                                 every number fits its bits
--   fits k f sequences pictures extensions          none of the reasons for 31 holds
use Rattle.std.specs.Prelude.{ℕ, ◌+◌, ◌-◌, Bool, List, [], ◌∷◌, ◌++◌, length}
use Rattle.words.specs.Tests.{◌<?◌, ◌≤?◌, ◌≡?◌, all}
use Rattle.numbers.specs.declared.Kind.{Kind}
use Rattle.sets.specs.Sets.{exactly}
use Rattle.record_rules.specs.Layout.{version, head_size, record_layout, byte_of, is_byte, flags_byte, flags_fit}
use Rattle.record_rules.specs.Trailers.{ending}
use Rattle.record_rules.specs.Read.{record_fault}
use Rattle.record_rules.specs.declared.Flag.{Flag}
use Rattle.record_rules.specs.declared.Fields.{Fields}
use Rattle.record_rules.specs.declared.Record.{Record}

-- a new flag is one more here, and one more in `fields_of`
abbrev pub flags_of : Fields → List Flag
flags_of f = f.complete ∷ []

abbrev pub head_bytes : Kind → Fields → List ℕ
head_bytes k f =
    version ∷ f.profile ∷ f.compatibility ∷ f.level
    ∷ (flags_byte 0 (flags_of f) + byte_of (record_layout k).length_size (f.length_size - 1))
    ∷ byte_of (record_layout k).count f.sequences
    ∷ []

unfoldable pub record_bytes : Kind → Fields → List ℕ → List ℕ → List ℕ → List ℕ
record_bytes k f sequences pictures extensions =
    head_bytes k f ++ (sequences ++ (f.pictures ∷ (pictures ++ ((ending f.trailer).head ++ extensions))))

-- the fields, and where their sets stand in the bytes that they make
abbrev pub placed : Fields → List ℕ → List ℕ → List ℕ → Record
placed f sequences pictures extensions =
    let pictures_at = head_size + length sequences + 1 in
    record {
      fields = f;
      sequences = record { start = record { 0 = head_size }; len = length sequences };
      pictures = record { start = record { 0 = pictures_at }; len = length pictures };
      extensions =
          record { start = record { 0 = pictures_at + length pictures + length (ending f.trailer).head }; len = length extensions };
    }

-- every number fits its bits, and a flag is given exactly where the kind has it
unfoldable pub numbers_fit : Kind → Fields → Bool
numbers_fit k f =
    all (is_byte f.profile
    ∷ is_byte f.compatibility
    ∷ is_byte f.level
    ∷ flags_fit (record_layout k).flags 0 (flags_of f)
    ∷ (0 <? f.length_size)
    ∷ (f.length_size ≤? (record_layout k).length_size.low)
    ∷ (f.sequences <? (record_layout k).count.low)
    ∷ is_byte f.pictures
    ∷ (ending f.trailer).fits
    ∷ [])

-- None of document 01's reasons for 31 holds: a number doesn't fit its bits, the lent sets aren't exactly the count, a trailer is given
-- where none belongs or missing where one does, or the bytes would be refused by the reader. Absent counts as given (02, [1]).
unfoldable pub fits : Kind → Fields → List ℕ → List ℕ → List ℕ → Bool
fits k f sequences pictures extensions =
    all (numbers_fit k f
    ∷ exactly sequences f.sequences
    ∷ exactly pictures f.pictures
    ∷ exactly extensions (ending f.trailer).sets
    ∷ (ending f.trailer).belongs k f.profile
    ∷ (record_fault k (record_bytes k f sequences pictures extensions) ≡? 0)
    ∷ [])
