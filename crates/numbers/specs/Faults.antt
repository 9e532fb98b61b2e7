-- A refusal without its place, as a number of the table; and what a step says of one, 0 for none.
--
--   number_of_fault f    its number
--   fault_in r           the number of the fault that a step met, 0 where it met none
--   numbered r           what a step answers, its fault as a number
--   refusal_at f p       the refusal with that number, at the place p
--   refused_at p r       what a step answers, its fault at the place p
use Rattle.std.specs.Prelude.{ℕ, Result, Ok, Err}
use Rattle.words.specs.RefusalNumbers as numbers
use Rattle.numbers.specs.declared.Refusal.{Refusal}
use Rattle.numbers.specs.declared.refusals.Fault.{Fault}
use Rattle.numbers.specs.declared.refusals.Fault.TheVariants as fault

abbrev pub number_of_fault : Fault → ℕ
number_of_fault fault.BundleTooLong = numbers.bundle_too_long
number_of_fault fault.BundleCut = numbers.bundle_cut
number_of_fault fault.CountOutOfLimits = numbers.count_out_of_limits
number_of_fault fault.UnknownKind = numbers.unknown_kind
number_of_fault fault.BadReference = numbers.bad_reference
number_of_fault fault.BadTrackOrTime = numbers.bad_track_or_time
number_of_fault fault.BadByteCount = numbers.bad_byte_count
number_of_fault fault.RecordCut = numbers.record_cut
number_of_fault fault.BadVersion = numbers.bad_version
number_of_fault fault.WrongFixedBits = numbers.wrong_fixed_bits
number_of_fault fault.BadLengthSize = numbers.bad_length_size
number_of_fault fault.BadSet = numbers.bad_set
number_of_fault fault.BytesAfterRecord = numbers.bytes_after_record
number_of_fault fault.LengthFieldCut = numbers.length_field_cut
number_of_fault fault.UnitTooLong = numbers.unit_too_long
number_of_fault fault.EmptyUnit = numbers.empty_unit
number_of_fault fault.TopBitSet = numbers.top_bit_set
number_of_fault fault.UnitTooShort = numbers.unit_too_short
number_of_fault fault.NestedAggregator = numbers.nested_aggregator
number_of_fault fault.SliceInAvcAggregator = numbers.slice_in_avc_aggregator
number_of_fault fault.BadAdditionalBytes = numbers.bad_additional_bytes
number_of_fault fault.BadExtractorSize = numbers.bad_extractor_size
number_of_fault fault.BadTrackRefIndex = numbers.bad_track_ref_index
number_of_fault fault.NoSampleNamed = numbers.no_sample_named
number_of_fault fault.NamedIllFormed = numbers.named_ill_formed
number_of_fault fault.BadDataOffset = numbers.bad_data_offset
number_of_fault fault.BadDataLength = numbers.bad_data_length
number_of_fault fault.ExtractorCopied = numbers.extractor_copied
number_of_fault fault.OutputTooLong = numbers.output_too_long
number_of_fault fault.NoSuchNumber = numbers.no_such_number
number_of_fault fault.FieldsFitNoRecord = numbers.fields_fit_no_record
number_of_fault fault.UnitNotStreamable = numbers.unit_not_streamable
number_of_fault fault.BadByteStream = numbers.bad_byte_stream
number_of_fault fault.UnitExceedsLengthSize = numbers.unit_exceeds_length_size

abbrev pub fault_in : {A : Type 0} → Result A Fault → ℕ
fault_in (Ok a) = 0
fault_in (Err f) = number_of_fault f

abbrev pub numbered : {A : Type 0} → Result A Fault → Result A ℕ
numbered (Ok a) = Ok a
numbered (Err f) = Err (number_of_fault f)

abbrev pub refusal_at : Fault → ℕ → Refusal
refusal_at f p = record { number = number_of_fault f; place = record { 0 = p } }

abbrev pub refused_at : {A : Type 0} → ℕ → Result A Fault → Result A Refusal
refused_at p (Ok a) = Ok a
refused_at p (Err f) = Err (refusal_at f p)
