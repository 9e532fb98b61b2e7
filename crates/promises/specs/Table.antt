-- The marked cases of document 01, 'The bench bundle and its neighbours', as one table about the definitions, closed by computation.
-- Rows are B0, M1 to M12, in order. M7 to M9 stand in B0 with the sample put into it.
use Rattle.std.specs.Prelude.{ℕ, ◌≡◌, refl, List, [], ◌∷◌, ◌++◌, map, length}
use Rattle.words.specs.Refusals.{first_of, refused, ok, Answer, Verdict, first, ◌and_then◌}
use Rattle.words.specs.Lists.{keep, some, nth, last_that, each, upto, sum}
use Rattle.words.specs.Walks.{entries, skip}
use Rattle.words.specs.Bytes.{big, bytes, cuts}
use Rattle.sets.specs.Sets.{set_fault}
use Rattle.record_rules.specs.Layout.{byte_fault}
use Rattle.record_rules.specs.Trailers.{values_fault}
use Rattle.record_rules.specs.Read.{head_fault, sequences_end, pictures_end, record_fault, read_as, read_record}
use Rattle.record_rules.specs.declared.Record.{Record}
use Rattle.units.specs.Units.{size, type, unit_fault, places_from, top_units, border, top_between}
use Rattle.units.specs.Aggregators.{cover_fault, included_fault, with_included, units, extractors}
use Rattle.samples.specs.Check.{inside_verdict, cover_verdict, content_verdict, check, check_alone}
use Rattle.bundles.specs.Limits.{count_fault}
use Rattle.bundles.specs.Recordings.{references_from, samples_in}
use Rattle.bundles.specs.Tracks.{size_at, track_fault, tracks_verdict, tracks, references_at}
use Rattle.bundles.specs.References.{no_such_track, reference_fault, references_verdict, references, samples_at}
use Rattle.bundles.specs.Samples.{order_fault, entry_fault, samples_verdict, sample_entries, lengths, byte_count_at}
use Rattle.bundles.specs.Bundles.{byte_count_fault, bytes_verdict, bundle_verdict, layout_of, recording_of, meaning}
use Rattle.bundles.specs.Readers.{first_layout}
use Rattle.links.specs.Halving.{halving_in}
use Rattle.links.specs.Links.{link_fault, linked_track, base_search, base, sample_named, name_fault}
use Rattle.copies.specs.Copies.{copy_end, copy_ends, copied, border_fault, copy_fault}
use Rattle.resolution_rules.specs.Resolving.{sample_of, named, name_fault_at, copy_fault_at, extract_fault, judged}
use Rattle.resolution_rules.specs.Resolving.{copied_at, delivered_at, delivered}
use Rattle.resolution_rules.specs.Calls.{written, output, number_fault, resolve, resolve_call}
use Rattle.audit_rules.specs.Auditing.{line_bytes, line_of, lines, audit_call}
use Rattle.naming_list_rules.specs.Naming.{namers_in, naming_list, list_bytes, names, names_call}

-- an answer, without bytes where there are none to give, and what it should be
record Row : Type 0 where
  answer : Answer (List ℕ)
  expected : Answer (List ℕ)

gives : Answer (List ℕ) → List ℕ → Row
gives a out = record { answer = a; expected = ok out }

passes : Verdict → Row
passes v = record { answer = v and_then ok []; expected = ok [] }

refuses : Answer (List ℕ) → ℕ → ℕ → Row
refuses a n p = record { answer = a; expected = refused n p }

fails : Verdict → ℕ → ℕ → Row
fails v n p = refuses (v and_then ok []) n p

-- whether a record is accepted
record_verdict : Answer Record → Verdict
record_verdict (refused n p) = refused n p
record_verdict (ok r) = ok tt

-- B0's layout, with a sample in the AVC track and one in the SVC track. B0 itself has `slice` and `extractor 1 0 0 0`.
bundle : List ℕ → List ℕ → List ℕ
bundle avc svc =
    0x02
    ∷ 0x00 ∷ 0x00 ∷ 0x07 ∷ 0x01 ∷ 0x42 ∷ 0x00 ∷ 0x1E ∷ 0xFC ∷ 0xE0 ∷ 0x00
    ∷ 0x01 ∷ 0x00 ∷ 0x07 ∷ 0x01 ∷ 0x53 ∷ 0x00 ∷ 0x1E ∷ 0xFC ∷ 0x00 ∷ 0x00
    ∷ 0x01 ∷ 0x02 ∷ 0x01
    ∷ 0x00 ∷ 0x02
    ∷ 0x01 ∷ bytes 8 0 ++ bytes 4 (length avc)
    ++ 0x02 ∷ bytes 8 0 ++ bytes 4 (length svc)
    ++ bytes 4 (length (avc ++ svc)) ++ avc ++ svc

slice : List ℕ
slice = 0x02 ∷ 0x65 ∷ 0x88 ∷ []

-- track_ref_index, sample_offset, data_offset, data_length
extractor : ℕ → ℕ → ℕ → ℕ → List ℕ
extractor index sample_offset data_offset data_length =
    0x08 ∷ 0x7F ∷ 0x80 ∷ 0x00 ∷ 0x03 ∷ index ∷ sample_offset ∷ data_offset ∷ data_length ∷ []

-- an aggregator that includes a slice; one that covers a slice by n additional_bytes
including : List ℕ
including = 0x08 ∷ 0x7E ∷ 0x80 ∷ 0x00 ∷ 0x03 ∷ 0x00 ∷ 0x02 ∷ 0x65 ∷ 0x88 ∷ []

covering : ℕ → List ℕ
covering n = 0x05 ∷ 0x7E ∷ 0x80 ∷ 0x00 ∷ 0x03 ∷ n ∷ 0x02 ∷ 0x65 ∷ 0x88 ∷ []

-- what the slice is resolved to
resolved : List ℕ
resolved = 0x00 ∷ 0x00 ∷ 0x00 ∷ 0x02 ∷ 0x65 ∷ 0x88 ∷ []

-- sample 2 of a bundle resolved, with enough room
second : List ℕ → List ℕ → Answer (List ℕ)
second avc svc = resolve_call first_layout (bundle avc svc) 2 100

table : List Row
table =
    -- B0
    gives (second slice (extractor 1 0 0 0)) resolved
    ∷ gives (names_call first_layout (bundle slice (extractor 1 0 0 0)) 1 6) (0x00 ∷ 0x02 ∷ 0x00 ∷ 0x00 ∷ 0x00 ∷ 0x00 ∷ [])
    ∷ gives (names_call first_layout (bundle slice (extractor 1 0 0 0)) 2 0) []
    ∷ gives (audit_call first_layout (bundle slice (extractor 1 0 0 0)) 26) (bytes 13 1 ++ bytes 13 1)
    -- M1, M2, M3
    ∷ gives (second slice (extractor 1 0 0 3)) resolved
    ∷ refuses (second slice (extractor 1 0 0 2)) 27 0
    ∷ refuses (second slice (extractor 1 0 0 4)) 27 0
    -- M4
    ∷ refuses (second slice (extractor 1 0 1 0)) 26 0
    ∷ refuses (second slice (extractor 1 0 1 9)) 26 0
    -- M5
    ∷ refuses (second slice (extractor 0 0 0 0)) 23 0
    ∷ refuses (second slice (extractor 2 0 0 0)) 23 0
    -- M6
    ∷ refuses (second slice (extractor 1 1 0 0)) 24 0
    ∷ refuses (second slice (extractor 1 255 0 0)) 24 0
    -- M7
    ∷ passes (check_alone 1 1 including)
    ∷ gives (second slice including) resolved
    ∷ fails (check_alone 0 1 including) 20 6
    ∷ refuses (resolve_call first_layout (bundle including slice) 1 100) 20 6
    -- M8
    ∷ passes (check_alone 1 1 (covering 3))
    ∷ gives (second slice (covering 3)) resolved
    ∷ fails (check_alone 1 1 (covering 2)) 21 0
    ∷ fails (check_alone 1 1 (covering 4)) 21 0
    ∷ refuses (second slice (covering 2)) 21 0
    ∷ refuses (second slice (covering 4)) 21 0
    -- M9
    ∷ gives (second (covering 3) (extractor 1 0 0 0)) resolved
    ∷ gives (second (covering 3) (extractor 1 0 0 6)) []
    ∷ gives (second (covering 3) (extractor 1 0 0 9)) resolved
    -- M10; its first half is accepted since request [1]
    ∷ passes (record_verdict (read_record 0 (0x01 ∷ 0x64 ∷ 0x00 ∷ 0x1E ∷ 0xFF ∷ 0xE0 ∷ 0x00 ∷ [])))
    ∷ passes (record_verdict (read_record 0
    (0x01 ∷ 0x64 ∷ 0x00 ∷ 0x1E ∷ 0xFF ∷ 0xE0 ∷ 0x00 ∷ 0xFD ∷ 0xF8 ∷ 0xF8 ∷ 0x00 ∷ [])))
    -- M11
    ∷ fails (record_verdict (read_record 0 (0x01 ∷ 0x42 ∷ 0x00 ∷ 0x1E ∷ 0xFE ∷ 0xE0 ∷ 0x00 ∷ []))) 11 0
    -- M12
    ∷ fails (check_alone 0 1 (0x00 ∷ [])) 16 0
    ∷ fails (check_alone 0 1 (0x02 ∷ 0x65 ∷ [])) 15 0
    ∷ fails (check_alone 0 1 (0x01 ∷ 0xE5 ∷ [])) 17 0
    ∷ fails (check_alone 0 1 (0x03 ∷ 0x7F ∷ 0x80 ∷ 0x00 ∷ [])) 18 0
    ∷ fails (check_alone 0 2 (0x00 ∷ [])) 14 0
    ∷ []

-- B0 as document 01 writes it
bench : List ℕ
bench =
    0x02
    ∷ 0x00 ∷ 0x00 ∷ 0x07 ∷ 0x01 ∷ 0x42 ∷ 0x00 ∷ 0x1E ∷ 0xFC ∷ 0xE0 ∷ 0x00
    ∷ 0x01 ∷ 0x00 ∷ 0x07 ∷ 0x01 ∷ 0x53 ∷ 0x00 ∷ 0x1E ∷ 0xFC ∷ 0x00 ∷ 0x00
    ∷ 0x01 ∷ 0x02 ∷ 0x01
    ∷ 0x00 ∷ 0x02
    ∷ 0x01 ∷ 0x00 ∷ 0x00 ∷ 0x00 ∷ 0x00 ∷ 0x00 ∷ 0x00 ∷ 0x00 ∷ 0x00 ∷ 0x00 ∷ 0x00 ∷ 0x00 ∷ 0x03
    ∷ 0x02 ∷ 0x00 ∷ 0x00 ∷ 0x00 ∷ 0x00 ∷ 0x00 ∷ 0x00 ∷ 0x00 ∷ 0x00 ∷ 0x00 ∷ 0x00 ∷ 0x00 ∷ 0x09
    ∷ 0x00 ∷ 0x00 ∷ 0x00 ∷ 0x0C
    ∷ 0x02 ∷ 0x65 ∷ 0x88
    ∷ 0x08 ∷ 0x7F ∷ 0x80 ∷ 0x00 ∷ 0x03 ∷ 0x01 ∷ 0x00 ∷ 0x00 ∷ 0x00
    ∷ []

bench_bytes : bundle slice (extractor 1 0 0 0) ≡ bench
unfolding bundle slice extractor bench bytes
bench_bytes = refl

marked : map (λ row. row.answer) table ≡ map (λ row. row.expected) table
unfolding table gives passes refuses fails record_verdict bundle slice extractor including covering resolved second
    first_of first keep some nth last_that each upto sum entries skip big bytes cuts
    set_fault
    byte_fault values_fault head_fault sequences_end pictures_end record_fault read_as read_record
    size type unit_fault places_from top_units border top_between cover_fault included_fault with_included units extractors
    inside_verdict cover_verdict content_verdict check
    count_fault references_from samples_in size_at track_fault tracks_verdict tracks references_at no_such_track reference_fault
    references_verdict references samples_at order_fault entry_fault samples_verdict sample_entries lengths byte_count_at byte_count_fault
    bytes_verdict bundle_verdict layout_of recording_of meaning
    halving_in link_fault linked_track base_search base sample_named name_fault
    copy_end copy_ends copied border_fault copy_fault
    sample_of named name_fault_at copy_fault_at extract_fault copied_at delivered_at delivered judged written output number_fault resolve
    resolve_call
    line_bytes line_of lines audit_call
    namers_in naming_list list_bytes names names_call
marked = refl
