-- A reader of bundles: what the bytes of a bundle mean by one layout. The calls on a bundle are stated once, over any reader.
--
--   Reader        the recording that a bundle means; where in the bundle the bytes of a sample start, and the record of a track stands;
--                 the numbers of its refusals
--   first_layout  the reader of document 01, 'The bundle'
use Rattle.std.specs.Prelude.{ℕ, List}
use Rattle.words.specs.RefusalNumbers.{bundle_refusals}
use Rattle.words.specs.Refusals.{Answer}
use Rattle.bundles.specs.Parts.{BundlePart}
use Rattle.bundles.specs.Recordings.{Recording}
use Rattle.bundles.specs.Tracks as tracks
use Rattle.bundles.specs.Bundles as bundles

pub record Reader : Type 0 where
  pub means : List ℕ → Answer Recording
  pub content_at : List ℕ → ℕ → ℕ
  pub record_part : List ℕ → ℕ → BundlePart
  pub refusals : List ℕ

abbrev pub first_layout : Reader
first_layout = record {
  means = bundles.meaning;
  content_at = bundles.content_at;
  record_part = tracks.record_part;
  refusals = bundle_refusals;
}
