-- What is promised of reading and writing records. Each is proved under the name given, in proofs/Promise.antt.
use Rattle.std.specs.Prelude.{ℕ, ◌≤◌, ◌≡◌, List, [], ◌∷◌, length, Some}
use Rattle.words.specs.RefusalNumbers.{unknown_kind, record_refusals, output_too_long, fields_fit_no_record}
use Rattle.words.specs.Refusals.{refused, ok}
use Rattle.words.specs.Lists.{◌∈◌}
use Rattle.words.specs.Bytes.{Bytes}
use Rattle.numbers.specs.Kinds.{kind_of}
use Rattle.numbers.specs.declared.Kind.{Kind}
use Rattle.record_rules.specs.Read.{read_record}
use Rattle.record_rules.specs.Answers.{part_bytes}
use Rattle.record_rules.specs.declared.Fields.{Fields}
use Rattle.record_rules.specs.declared.Record.{Record}
use Rattle.record_writer.specs.Write.{write_record}

-- The bytes s are an accepted record of these fields and these sets.
pub record Holds (kind : ℕ) (s : List ℕ) (f : Fields) (sequence_sets picture_sets extension_sets : List ℕ) : Type 0 where
  pub found : Record
  pub read : read_record kind s ≡ ok found
  pub fields : found.fields ≡ f
  pub sequences : part_bytes s found.sequences ≡ sequence_sets
  pub pictures : part_bytes s found.pictures ≡ picture_sets
  pub extensions : part_bytes s found.extensions ≡ extension_sets

-- `writes_back`: an accepted record, written again from its fields and its own parts with room, gives the same bytes.
abbrev pub WritesBack : Type 0
WritesBack =
    (kind : ℕ) (s : List ℕ) (f : Fields) (sequences pictures extensions : List ℕ) (room : ℕ) →
    Bytes s → Holds kind s f sequences pictures extensions → length s ≤ room →
    write_record kind f sequences pictures extensions room ≡ ok s

-- `reads_back`: what was written reads back as exactly the fields and sets that were given.
abbrev pub ReadsBack : Type 0
ReadsBack =
    (kind : ℕ) (s : List ℕ) (f : Fields) (sequences pictures extensions : List ℕ) (room : ℕ) →
    write_record kind f sequences pictures extensions room ≡ ok s → Holds kind s f sequences pictures extensions

-- `misfits_exactly`: of a known kind, 31 arises exactly if no accepted record has those fields and sets.
abbrev pub MisfitsExactly : Type 0
MisfitsExactly =
    (kind : ℕ) (k : Kind) (f : Fields) (sequences pictures extensions : List ℕ) (room : ℕ) →
    kind_of kind ≡ Some k → Bytes sequences → Bytes pictures → Bytes extensions →
    (write_record kind f sequences pictures extensions room ≡ refused fields_fit_no_record 0 →
    (s : List ℕ) → Bytes s → Holds kind s f sequences pictures extensions → ⊥)
    × (((s : List ℕ) → Bytes s → Holds kind s f sequences pictures extensions → ⊥) →
    write_record kind f sequences pictures extensions room ≡ refused fields_fit_no_record 0)

-- `read_refusals_lem`, `write_refusals_lem`: every refusal is one of these, at place 0.
abbrev pub read_refusals : List ℕ
read_refusals = unknown_kind ∷ record_refusals

abbrev pub write_refusals : List ℕ
write_refusals = unknown_kind ∷ fields_fit_no_record ∷ output_too_long ∷ []

abbrev pub ReadRefusals : Type 0
ReadRefusals = (kind : ℕ) (s : List ℕ) (n p : ℕ) → read_record kind s ≡ refused n p → (p ≡ 0) × (n ∈ read_refusals)

abbrev pub WriteRefusals : Type 0
WriteRefusals =
    (kind : ℕ) (f : Fields) (sequences pictures extensions : List ℕ) (room n p : ℕ) →
    write_record kind f sequences pictures extensions room ≡ refused n p → (p ≡ 0) × (n ∈ write_refusals)
