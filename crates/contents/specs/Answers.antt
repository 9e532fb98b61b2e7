-- What the answers of the code say, in the words of Contents.
--
--   counts_answer_of, track_answer_of, reference_answer_of, sample_answer_of    an answer
use Rattle.std.specs.Prelude.{Err, Ok, Result}
use Rattle.words.specs.Refusals.{Answer, refused, ok}
use Rattle.bundles.specs.Recordings as recordings
use Rattle.contents.specs.Contents as contents
use Rattle.contents.specs.declared.TrackEntry.{TrackEntry}
use Rattle.contents.specs.declared.Reference.{Reference}
use Rattle.contents.specs.declared.SampleEntry.{SampleEntry}
use Rattle.numbers.specs.declared.Refusal.{Refusal}
use Rattle.contents.specs.declared.Counts.{Counts}

abbrev pub counts_answer_of : Result Counts Refusal → Answer contents.Counts
counts_answer_of (Err f) = refused f.number f.place.0
counts_answer_of (Ok c) = ok (record { tracks = c.tracks; references = c.references; samples = c.samples })

abbrev track_for : TrackEntry → contents.TrackEntry
track_for e = record { kind = e.kind; stands = record { start = e.start.0; size = e.size } }

abbrev pub track_answer_of : Result TrackEntry Refusal → Answer contents.TrackEntry
track_answer_of (Err f) = refused f.number f.place.0
track_answer_of (Ok e) = ok (track_for e)

abbrev reference_for : Reference → recordings.Reference
reference_for e = record { from = e.from.0; to = e.to.0 }

abbrev pub reference_answer_of : Result Reference Refusal → Answer recordings.Reference
reference_answer_of (Err f) = refused f.number f.place.0
reference_answer_of (Ok e) = ok (reference_for e)

abbrev sample_for : SampleEntry → contents.SampleEntry
sample_for e = record { track = e.track.0; time = e.time; stands = record { start = e.start.0; size = e.size } }

abbrev pub sample_answer_of : Result SampleEntry Refusal → Answer contents.SampleEntry
sample_answer_of (Err f) = refused f.number f.place.0
sample_answer_of (Ok e) = ok (sample_for e)
