-- Writing a record: an unknown kind is 4, then fields that fit no record 31, then too little room 29, all at 0; else the record's bytes.
use Rattle.std.specs.Prelude.{ℕ, not, List}
use Rattle.words.specs.RefusalNumbers.{fields_fit_no_record}
use Rattle.words.specs.Refusals.{◌if◌, Answer, ok, ◌at_place◌, ◌and_then◌}
use Rattle.words.specs.Buffers.{within}
use Rattle.numbers.specs.Kinds.{kind_of, on_kind}
use Rattle.numbers.specs.declared.Kind.{Kind}
use Rattle.record_rules.specs.Fields.{record_bytes, fits}
use Rattle.record_rules.specs.declared.Fields.{Fields}

-- the record of fields f with its sequence sets, its picture sets and its trailer's sets
unfoldable pub write_as : Kind → Fields → List ℕ → List ℕ → List ℕ → Answer (List ℕ)
write_as k f sequences pictures extensions =
    (fields_fit_no_record if not (fits k f sequences pictures extensions)) at_place 0 and_then
    ok (record_bytes k f sequences pictures extensions)

unfoldable pub write_record : ℕ → Fields → List ℕ → List ℕ → List ℕ → ℕ → Answer (List ℕ)
write_record kind f sequences pictures extensions room =
    within room (on_kind (kind_of kind) (λ k. write_as k f sequences pictures extensions))
