-- The answer and the table of an accepted bundle, by what the code reads of it. Assumes nothing.
--
--   table_sections         the table of its recording, section by section
--   short_here, done_here  a table without room, and one that was filled
use Rattle.std.specs.Prelude.{Err, Ok}
use Prim.Native.Nat.{ℕ, ◌*◌, ◌≤◌, ◌<◌}
use mathlib.Core.Path.{◌≡◌, refl}
use mathlib.Core.List.{List, [], ◌∷◌}
use borrow.Author.Tests.{le-ltb, lt-ltb}
use lib.ListN.{length}
use Rattle.words.specs.RefusalNumbers.{output_too_long}
use Rattle.words.specs.Refusals.{ok}
use Rattle.words.specs.Buffers.{write_at}
use Rattle.bundles.specs.Recordings.{sample_count}
use Rattle.bundles.specs.Tracks.{track_count}
use Rattle.bundles.specs.References.{reference_count}
use Rattle.bundles.specs.Samples.{entry_count}
use Rattle.bundles.specs.Bundles.{bundle_verdict, layout_of, recording_of, meaning, content_at}
use Rattle.bundles.specs.Readers.{first_layout}
use Rattle.bundles.proofs.Sections.{track_count_lem, reference_count_lem, sample_count_lem}
use Rattle.tables.specs.Tables.{columns, counts_row, track_row, reference_row, sample_row, table_size}
use Rattle.filling.specs.Filling.{write_rows, track_cells, reference_cells, sample_cells, table_of, needed, filling, table_after}

module _ (b : List ℕ) where
  layout_is : (recording_of b).layout ≡ layout_of b
  unfolding recording_of
  layout_is = refl

  tracks_are : length (layout_of b).tracks ≡ track_count b
  unfolding layout_of
  tracks_are = track_count_lem b

  references_are : length (layout_of b).references ≡ reference_count b
  unfolding layout_of
  references_are = reference_count_lem b

  samples_are : sample_count (layout_of b) ≡ entry_count b
  unfolding layout_of
  samples_are = sample_count_lem b

  means_here : bundle_verdict b ≡ ok tt → meaning b ≡ ok (recording_of b)
  unfolding meaning
  means_here good = rw good

  pub table_sections :
      (t : List ℕ) →
      write_rows
      (write_rows
      (write_rows (write_at t (counts_row * columns) (track_count b ∷ reference_count b ∷ entry_count b ∷ 0 ∷ [])) (track_row 1) (track_cells (layout_of b)) (track_count b))
      (reference_row 1) (reference_cells (layout_of b)) (reference_count b))
      (sample_row 1) (sample_cells (recording_of b) (content_at b)) (entry_count b)
      ≡ table_of (recording_of b) (content_at b) t
  unfolding table_of
  table_sections t = rw (layout_is, tracks_are, references_are, samples_are)

  module _ (t : List ℕ) (m : ℕ) (good : bundle_verdict b ≡ ok tt) (e : m ≡ entry_count b) where
    need_is : needed (recording_of b) ≡ table_size m
    need_is = rw (layout_is, samples_are, e)

    pub short_here : length t < table_size m → (Err (record { number = output_too_long; place = record { 0 = 0 } }) ≡ filling first_layout b (length t)) × (t ≡ table_after first_layout b t)
    unfolding filling table_after
    short_here h = rw (means_here good, need_is, lt-ltb (length t) (table_size m) h) (refl, refl)

    pub done_here : {x : List ℕ} → table_size m ≤ length t → x ≡ table_of (recording_of b) (content_at b) t → ((Ok tt) ≡ filling first_layout b (length t)) × (x ≡ table_after first_layout b t)
    unfolding filling table_after
    done_here h w = rw (means_here good, need_is, le-ltb (length t) (table_size m) h) (refl, w)
