-- What the reader's answer says: a refusal with its number and place, or the record. And where a record's sets stand in its bytes.
use Rattle.std.specs.Prelude.{List, ℕ, Err, Ok, Result}
use Rattle.words.specs.Refusals.{Answer, refused, ok}
use Rattle.words.specs.Bytes.{part}
use Rattle.numbers.specs.declared.Kind.{Kind}
use Rattle.record_rules.specs.Fields.{record_bytes}
use Rattle.record_rules.specs.declared.Part.{Part}
use Rattle.record_rules.specs.declared.Record.{Record}
use Rattle.numbers.specs.declared.Refusal.{Refusal}

abbrev pub answer_of : Result Record Refusal → Answer Record
answer_of (Err r) = refused r.number r.place.0
answer_of (Ok v) = ok v

-- the bytes of s at a part, and the bytes that a record of s makes, with its own parts
abbrev pub part_bytes : List ℕ → Part → List ℕ
part_bytes s p = part s p.start.0 p.len

abbrev pub written_again : Kind → List ℕ → Record → List ℕ
written_again k s r = record_bytes k r.fields (part_bytes s r.sequences) (part_bytes s r.pictures) (part_bytes s r.extensions)
