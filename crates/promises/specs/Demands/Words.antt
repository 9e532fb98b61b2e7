-- The words of Demands, and the file that each stands in: first the definitions that the contracts of the code cite, in the
-- order of docs/FORMAT.md; then the plain facts of crates/promise_rules/specs.
-- lists, bytes, answers, lent buffers
unfoldable pub use Rattle.words.specs.Lists.{keep, nth, each, upto}
pub use Rattle.words.specs.Bytes.{Bytes, byte_at, big, bytes, part, splice}
pub use Rattle.words.specs.RefusalNumbers.{refusal_numbers}
pub use Rattle.words.specs.Refusals.{Answer, refused, ok, Verdict, passed, count_of}
pub use Rattle.words.specs.Buffers.{leaves, Wrote}
-- records
pub use Rattle.record_rules.specs.Read.{read_record}
pub use Rattle.record_rules.specs.declared.Fields.{Fields}
pub use Rattle.record_writer.specs.Write.{write_record}
pub use Rattle.record_writer.specs.Promise.{Holds}
pub use Rattle.record_numbers.specs.Numbers.{read_numbers, write_numbers}
-- samples and bundles
pub use Rattle.units.specs.Units.{Sample, L, type, next, top_units}
pub use Rattle.units.specs.Aggregators.{additional_bytes}
pub use Rattle.units.specs.Extractors.{track_ref_index, sample_offset}
pub use Rattle.samples.specs.Check.{check_alone}
pub use Rattle.bundles.specs.Recordings.{Recording, sample_count, content_of, replaced}
pub use Rattle.bundles.specs.Bundles.{bundle_verdict}
pub use Rattle.bundles.specs.Readers.{first_layout}
-- resolving, the naming list, the audit, the C functions
pub use Rattle.resolution_rules.specs.Resolving.{sample_of, Span, judged}
pub use Rattle.resolution_rules.specs.Calls.{no_span, resolve_call, unit_call, place_call, unit_part}
pub use Rattle.naming_list_rules.specs.Naming.{namer, naming_list, list_bytes, names_call}
pub use Rattle.naming_list_rules.specs.Rules.{times_listed, Unlisted, SameAnswer}
pub use Rattle.tally.specs.declared.Tally.{Tally}
pub use Rattle.audit_rules.specs.Auditing.{audit_call, tally_call}
pub use Rattle.puddockle.specs.Returns.{Returned, ReturnedOutput, ReturnedPart, ReturnedTally}
-- plain facts
pub use Rattle.promise_rules.specs.Records.{RecordOf, WriteRefused}
pub use Rattle.promise_rules.specs.Reading.{ReadRefused}
pub use Rattle.promise_rules.specs.Numbers.{SetsStand, NumbersRead, NumbersReadRefused, NumbersWritten, NumbersWriteRefused}
pub use Rattle.promise_rules.specs.Samples.{Formed, Given}
pub use Rattle.promise_rules.specs.Units.{FieldsAt, UnitsOf, SampleMeans, PlacedAt}
pub use Rattle.promise_rules.specs.Bundles.{BundleOf, Means}
pub use Rattle.promise_rules.specs.BundleFaults.{BundleRefused}
pub use Rattle.promise_rules.specs.Resolving.{Sampled, NamedBy, NamesIt, LinkedTo, GoodSample, Resolved, after_length}
pub use Rattle.promise_rules.specs.Refused.{CheckRefused, ExtractorFault, SampleRefused}
pub use Rattle.promise_rules.specs.Refused.{ResolveRefused, UnitRefused, NamesRefused, AuditRefused}
pub use Rattle.promise_rules.specs.Audits.{LineIn, SampleSays, TallyOf}
pub use Rattle.promise_rules.specs.Returns.{OutputAnswer, VerdictAnswer}
pub use Rattle.promise_rules.specs.Returns.{OutputGiven, NumbersGiven, VerdictGiven, PartGiven, TallyGiven}
