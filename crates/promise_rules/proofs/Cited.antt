-- What Demands and Contents cite of the crates below, as it stands there; and `sound`, that the first layout is a sound reader.
pub use Rattle.words.proofs.Buffers.{refused_leaves}
pub use Rattle.record_writer.proofs.Promise.{reads_back}
pub use Rattle.resolution_rules.proofs.Readers.{first_layout_sound as sound}
pub use Rattle.naming_list_rules.proofs.Promises.{six_bytes, names_answers, entries_read_back, unlisted_by_call, list_kept, list_in_bundle, others_answer}
