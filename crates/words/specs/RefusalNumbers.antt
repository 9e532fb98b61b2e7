-- The refusal numbers of document 01, 'Numbers for no', and of document 02, by name, and the sets that the calls refuse with. The code's
-- table is crates/numbers/src/refusals.rt.
--
--   record_refusals       a configuration record: 8 to 13
--   bundle_refusals       a bundle, and the records in it: 1 to 13
--   unit_refusals         a unit by itself: 14 to 18
--   form_refusals         a sample's form: 14 to 22
--   name_refusals         which sample an extractor names: 23, 24
--   copy_refusals         what it copies of that sample: 25 to 28
--   extractor_refusals    an extractor: 23 to 28
--   sample_refusals       a sample resolved: 14 to 28
--   refusal_numbers       all of them
use Rattle.std.specs.Prelude.{ℕ, List, [], ◌∷◌, ◌++◌}

-- the bundle
abbrev pub bundle_too_long : ℕ
bundle_too_long = 1

abbrev pub bundle_cut : ℕ
bundle_cut = 2

abbrev pub count_out_of_limits : ℕ
count_out_of_limits = 3

abbrev pub unknown_kind : ℕ
unknown_kind = 4

abbrev pub bad_reference : ℕ
bad_reference = 5

abbrev pub bad_track_or_time : ℕ
bad_track_or_time = 6

abbrev pub bad_byte_count : ℕ
bad_byte_count = 7

-- a configuration record
abbrev pub record_cut : ℕ
record_cut = 8

abbrev pub bad_version : ℕ
bad_version = 9

abbrev pub wrong_fixed_bits : ℕ
wrong_fixed_bits = 10

abbrev pub bad_length_size : ℕ
bad_length_size = 11

abbrev pub bad_set : ℕ
bad_set = 12

abbrev pub bytes_after_record : ℕ
bytes_after_record = 13

-- the units of a sample
abbrev pub length_field_cut : ℕ
length_field_cut = 14

abbrev pub unit_too_long : ℕ
unit_too_long = 15

abbrev pub empty_unit : ℕ
empty_unit = 16

abbrev pub top_bit_set : ℕ
top_bit_set = 17

abbrev pub unit_too_short : ℕ
unit_too_short = 18

abbrev pub nested_aggregator : ℕ
nested_aggregator = 19

abbrev pub slice_in_avc_aggregator : ℕ
slice_in_avc_aggregator = 20

abbrev pub bad_additional_bytes : ℕ
bad_additional_bytes = 21

abbrev pub bad_extractor_size : ℕ
bad_extractor_size = 22

-- what an extractor names and copies
abbrev pub bad_track_ref_index : ℕ
bad_track_ref_index = 23

abbrev pub no_sample_named : ℕ
no_sample_named = 24

abbrev pub named_ill_formed : ℕ
named_ill_formed = 25

abbrev pub bad_data_offset : ℕ
bad_data_offset = 26

abbrev pub bad_data_length : ℕ
bad_data_length = 27

abbrev pub extractor_copied : ℕ
extractor_copied = 28

-- what was asked for
abbrev pub output_too_long : ℕ
output_too_long = 29

abbrev pub no_such_number : ℕ
no_such_number = 30

abbrev pub fields_fit_no_record : ℕ
fields_fit_no_record = 31

-- a byte stream (02, [2] and [3])
abbrev pub unit_not_streamable : ℕ
unit_not_streamable = 32

abbrev pub bad_byte_stream : ℕ
bad_byte_stream = 33

abbrev pub unit_exceeds_length_size : ℕ
unit_exceeds_length_size = 34

-- The sets, each in number order.
abbrev pub record_refusals : List ℕ
record_refusals = record_cut ∷ bad_version ∷ wrong_fixed_bits ∷ bad_length_size ∷ bad_set ∷ bytes_after_record ∷ []

abbrev pub bundle_refusals : List ℕ
bundle_refusals =
    bundle_too_long ∷ bundle_cut ∷ count_out_of_limits ∷ unknown_kind ∷ bad_reference ∷ bad_track_or_time ∷ bad_byte_count
    ∷ record_refusals

abbrev pub unit_refusals : List ℕ
unit_refusals = length_field_cut ∷ unit_too_long ∷ empty_unit ∷ top_bit_set ∷ unit_too_short ∷ []

abbrev pub form_refusals : List ℕ
form_refusals = unit_refusals ++ (nested_aggregator ∷ slice_in_avc_aggregator ∷ bad_additional_bytes ∷ bad_extractor_size ∷ [])

abbrev pub name_refusals : List ℕ
name_refusals = bad_track_ref_index ∷ no_sample_named ∷ []

abbrev pub copy_refusals : List ℕ
copy_refusals = named_ill_formed ∷ bad_data_offset ∷ bad_data_length ∷ extractor_copied ∷ []

abbrev pub extractor_refusals : List ℕ
extractor_refusals = name_refusals ++ copy_refusals

abbrev pub sample_refusals : List ℕ
sample_refusals = form_refusals ++ extractor_refusals

abbrev pub refusal_numbers : List ℕ
refusal_numbers =
    bundle_refusals ++ sample_refusals
    ++ (output_too_long ∷ no_such_number ∷ fields_fit_no_record ∷ unit_not_streamable ∷ bad_byte_stream ∷ unit_exceeds_length_size ∷ [])
