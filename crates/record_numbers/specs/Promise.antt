-- What is promised of records as numbers. Each is proved under the name given, in proofs/Promise.antt.
use Rattle.std.specs.Prelude.{ℕ, ◌≤◌, ◌≡◌, List, length, Some}
use Rattle.words.specs.Refusals.{ok}
use Rattle.words.specs.Bytes.{Bytes, part}
use Rattle.numbers.specs.Kinds.{kind_of}
use Rattle.numbers.specs.declared.Kind.{Kind}
use Rattle.record_rules.specs.Read.{read_record}
use Rattle.record_rules.specs.declared.Record.{Record}
use Rattle.record_numbers.specs.Indices.{sequence_start, sequence_length, picture_start, picture_length}
use Rattle.record_numbers.specs.Indices.{extension_start, extension_length, number_count}
use Rattle.record_numbers.specs.Numbers.{numbers_of, read_numbers, ◌at◌, numbers_fault, fields_from, write_numbers}

-- the sets of a record s, by the starts and lengths of its numbers
abbrev pub sequences_in : List ℕ → List ℕ → List ℕ
sequences_in s ns = part s (ns at sequence_start) (ns at sequence_length)

abbrev pub pictures_in : List ℕ → List ℕ → List ℕ
pictures_in s ns = part s (ns at picture_start) (ns at picture_length)

abbrev pub extensions_in : List ℕ → List ℕ → List ℕ
extensions_in s ns = part s (ns at extension_start) (ns at extension_length)

-- `numbers_back`: the numbers of a record that was read give its fields.
abbrev pub NumbersBack : Type 0
NumbersBack =
    (kind : ℕ) (k : Kind) (s : List ℕ) (r : Record) → kind_of kind ≡ Some k → read_record kind s ≡ ok r →
    (numbers_fault k (numbers_of r) ≡ 0) × (fields_from k (numbers_of r) ≡ r.fields)

-- `writes_back`: an accepted record, written again from its numbers and its own sets with room, gives the same bytes.
abbrev pub WritesBack : Type 0
WritesBack =
    (kind : ℕ) (s ns : List ℕ) (numbers room : ℕ) → Bytes s → read_numbers kind s numbers ≡ ok ns → length s ≤ room →
    write_numbers kind ns (sequences_in s ns) (pictures_in s ns) (extensions_in s ns) room ≡ ok s

-- `reads_back`: what was written reads back, with room for the numbers, as the fields and sets that were given.
pub record Same (kind : ℕ) (k : Kind) (s ns sequence_sets picture_sets extension_sets : List ℕ) (numbers : ℕ) : Type 0 where
  pub found : List ℕ
  pub read : read_numbers kind s numbers ≡ ok found
  pub fields : fields_from k found ≡ fields_from k ns
  pub sequences : sequences_in s found ≡ sequence_sets
  pub pictures : pictures_in s found ≡ picture_sets
  pub extensions : extensions_in s found ≡ extension_sets

abbrev pub ReadsBack : Type 0
ReadsBack =
    (kind : ℕ) (k : Kind) (s ns sequences pictures extensions : List ℕ) (room numbers : ℕ) →
    kind_of kind ≡ Some k → number_count ≤ numbers →
    write_numbers kind ns sequences pictures extensions room ≡ ok s → Same kind k s ns sequences pictures extensions numbers
