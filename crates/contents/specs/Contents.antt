-- What a bundle b holds, by a reader: how many tracks, references and samples, and what its sections say of each (01, 'The bundle').
-- 1 to 13 first, then 30 for a number 0 or past the last. A start is an offset in the bundle.
--
--   Counts                     how many tracks, references and samples there are
--   TrackEntry                 a track: its kind, and where its record stands
--   SampleEntry                a sample: its track, its decode time, and where its bytes stand
--   counts_of y                the counts of a layout
--   counts_call reader b       the call for the counts
--   track_call reader b k      the call for track k
--   reference_call reader b i  the call for reference i
--   sample_call reader b n     the call for sample n
use Rattle.std.specs.Prelude.{ℕ, List, length}
use Rattle.words.specs.Refusals.{Answer, ok}
use Rattle.words.specs.Lists.{nth}
use Rattle.numbers.specs.declared.Kind.{Kind}
use Rattle.bundles.specs.Parts.{BundlePart}
use Rattle.bundles.specs.Recordings.{Layout, Reference, no_track, no_reference, sample_count, track_of, time_of, content_of}
use Rattle.bundles.specs.Readers.{Reader}
use Rattle.resolution_rules.specs.Calls.{on_number, on_sample, on_bundle}

pub record Counts : Type 0 where
  pub tracks : ℕ
  pub references : ℕ
  pub samples : ℕ

pub record TrackEntry : Type 0 where
  pub kind : Kind
  pub stands : BundlePart

pub record SampleEntry : Type 0 where
  pub track : ℕ
  pub time : ℕ
  pub stands : BundlePart

abbrev pub counts_of : Layout → Counts
counts_of y = record { tracks = length y.tracks; references = length y.references; samples = sample_count y }

module _ (reader : Reader) (b : List ℕ) where
  unfoldable pub counts_call : Answer Counts
  counts_call = on_bundle reader b (λ r. ok (counts_of r.layout))

  unfoldable pub track_call : ℕ → Answer TrackEntry
  track_call k =
      on_bundle reader b (λ r. let ts = r.layout.tracks in
      on_number (length ts) k (ok (record { kind = (nth ts k no_track).kind; stands = reader.record_part b k })))

  unfoldable pub reference_call : ℕ → Answer Reference
  reference_call i =
      on_bundle reader b (λ r. let fs = r.layout.references in
      on_number (length fs) i (ok (nth fs i no_reference)))

  unfoldable pub sample_call : ℕ → Answer SampleEntry
  sample_call n =
      on_bundle reader b (λ r. let y = r.layout in
      on_sample r n (ok (record {
        track = track_of y n;
        time = time_of y n;
        stands = record { start = reader.content_at b n; size = length (content_of r n) };
      })))
