-- A record as 18 numbers, in the order of `Indices`.
--
--   numbers_of r                                              the numbers of a record
--   read_numbers kind s room                                  a record read as numbers: the refusals of reading, then 29, or the numbers
--   ns at i                                                   number i
--   has_complete k                                            whether a record of kind k has a complete_representation
--   flag_most k                                               the most that complete_representation may be in a record of kind k
--   numbers_fault k ns                                        31: too few numbers, or one that is no complete_representation or no trailer
--   fields_from k ns                                          the fields that numbers give; starts and lengths are not looked at
--   write_numbers kind ns sequences pictures extensions room  a record written from numbers: 4, then 31, then 29, or its bytes
use Rattle.std.specs.Prelude.{ℕ, Bool, List, [], ◌∷◌, length, get_or}
use Rattle.words.specs.Tests.{◌<?◌, ◌≡?◌, pick}
use Rattle.words.specs.RefusalNumbers.{fields_fit_no_record}
use Rattle.words.specs.Refusals.{◌if◌, ◌or_else◌, Answer, refused, ok, ◌at_place◌, ◌and_then◌}
use Rattle.words.specs.Buffers.{within}
use Rattle.numbers.specs.Kinds.{kind_of, on_kind}
use Rattle.numbers.specs.declared.Kind.{Kind}
use Rattle.record_rules.specs.Layout.{record_layout, bit, complete_flag, flag_of}
use Rattle.record_rules.specs.Read.{read_record}
use Rattle.record_rules.specs.declared.High.{High}
use Rattle.record_rules.specs.declared.Trailer.{Trailer}
use Rattle.record_rules.specs.declared.Trailer.TheVariants.{None, Absent, Present}
use Rattle.record_rules.specs.declared.Fields.{Fields}
use Rattle.record_rules.specs.declared.Part.{Part}
use Rattle.record_rules.specs.declared.Record.{Record}
use Rattle.record_writer.specs.Write.{write_as}
use Rattle.record_numbers.specs.Indices.{profile, compatibility, level, complete_representation, length_size}
use Rattle.record_numbers.specs.Indices.{sequence_count, picture_count}
use Rattle.record_numbers.specs.Indices.{trailer, chroma_format, luma_depth, chroma_depth, extension_count}
use Rattle.record_numbers.specs.Indices.{number_count, trailer_none, trailer_absent, trailer_present}

infix 60 ◌at◌
-- Reading: the trailer and what follows it, then all. Where none is present what follows it is 0.
abbrev pub trailer_numbers : Trailer → Part → List ℕ
trailer_numbers None sets = trailer_none ∷ 0 ∷ 0 ∷ 0 ∷ 0 ∷ 0 ∷ 0 ∷ []
trailer_numbers Absent sets = trailer_absent ∷ 0 ∷ 0 ∷ 0 ∷ 0 ∷ 0 ∷ 0 ∷ []
trailer_numbers (Present t) sets = trailer_present ∷ t.format ∷ t.luma ∷ t.chroma ∷ t.extensions ∷ sets.start.0 ∷ sets.len ∷ []

unfoldable pub numbers_of : Record → List ℕ
numbers_of r =
    r.fields.profile ∷ r.fields.compatibility ∷ r.fields.level ∷ bit r.fields.complete ∷ r.fields.length_size
    ∷ r.fields.sequences ∷ r.sequences.start.0 ∷ r.sequences.len
    ∷ r.fields.pictures ∷ r.pictures.start.0 ∷ r.pictures.len
    ∷ trailer_numbers r.fields.trailer r.extensions

abbrev pub as_numbers : Answer Record → Answer (List ℕ)
as_numbers (refused n p) = refused n p
as_numbers (ok r) = ok (numbers_of r)

unfoldable pub read_numbers : ℕ → List ℕ → ℕ → Answer (List ℕ)
read_numbers kind s room = within room (as_numbers (read_record kind s))

-- Writing. complete_representation is 0 or 1 in a kind of record that has it, else 0.
abbrev pub ◌at◌ : List ℕ → ℕ → ℕ
ns at i = get_or ns i 0

abbrev pub has_complete : Kind → Bool
has_complete k = complete_flag <? (record_layout k).flags

abbrev pub flag_most : Kind → ℕ
flag_most k = pick (has_complete k) 1 0

unfoldable pub numbers_fault : Kind → List ℕ → ℕ
numbers_fault k ns =
    fields_fit_no_record if length ns <? number_count or_else
    fields_fit_no_record if flag_most k <? ns at complete_representation or_else
    fields_fit_no_record if trailer_present <? ns at trailer

abbrev pub high_from : List ℕ → High
high_from ns = record {
  format = ns at chroma_format;
  luma = ns at luma_depth;
  chroma = ns at chroma_depth;
  extensions = ns at extension_count;
}

abbrev pub trailer_from : List ℕ → Trailer
trailer_from ns =
    pick (ns at trailer ≡? trailer_present) (Present (high_from ns)) (pick (ns at trailer ≡? trailer_absent) Absent None)

unfoldable pub fields_from : Kind → List ℕ → Fields
fields_from k ns =
    record {
      profile = ns at profile;
      compatibility = ns at compatibility;
      level = ns at level;
      complete = flag_of (has_complete k) (ns at complete_representation);
      length_size = ns at length_size;
      sequences = ns at sequence_count;
      pictures = ns at picture_count;
      trailer = trailer_from ns;
    }

unfoldable pub write_numbers_as : Kind → List ℕ → List ℕ → List ℕ → List ℕ → Answer (List ℕ)
write_numbers_as k ns sequences pictures extensions =
    numbers_fault k ns at_place 0 and_then write_as k (fields_from k ns) sequences pictures extensions

unfoldable pub write_numbers : ℕ → List ℕ → List ℕ → List ℕ → List ℕ → ℕ → Answer (List ℕ)
write_numbers kind ns sequences pictures extensions room =
    within room (on_kind (kind_of kind) (λ k. write_numbers_as k ns sequences pictures extensions))
