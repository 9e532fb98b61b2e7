-- The numbers of the table of a recording, and that they give the recording. Assumes nothing.
--
--   Tabled                                                    what is asked of a recording, of a bundle and of where the samples start in it, for a table to hold it
--   rows_cell, rows_before, rows_after                        a number of a row that was written, and of another
--   counts_cell, track_cell, reference_cell, sample_cell_lem  the numbers of a filled table
--   filled_layout                                             it says the recording's layout
--   filled_contents                                           and with the bundle gives its samples' bytes
--   filled_recording                                          and so the recording
use Prim.Native.Nat.{ℕ, ◌+◌, ◌-◌, ◌*◌, ◌≤◌, ◌<◌}
use mathlib.Core.Path.{◌≡◌, refl, ap, sym, ◌∙◌}
use mathlib.Core.List.{List, [], map, Memᴰ}
use native.Mathlib.Omega.{arith}
use native.Mathlib.Numerals.{add-one}
use lib.ListN.{length, get_or}
use Rattle.words.specs.Tests.{◌<?◌}
use Rattle.words.specs.Lists.{nth, upto, each}
use Rattle.words.specs.Buffers.{write_at}
use Rattle.words.proofs.Buffers.{write_length}
use Rattle.words.proofs.Lists.{upto_from}
use Rattle.words.proofs.Rows.{map_upto, last_that_cong, write_here, write_before, write_after, rows_length, rows_at, get_d_mem}
use Rattle.bundles.specs.Limits.{track_most, reference_most, sample_most}
use Rattle.bundles.specs.Recordings.{Layout, Recording, no_track, no_reference, no_entry, sample_count}
use Rattle.bundles.proofs.Promises.{LimitsKept, Ordered}
use Rattle.tables.specs.Tables.{columns, counts_row, track_row, reference_row, sample_row, tracks_column, references_column, samples_column, kind_column, size_column, before_column, from_column, to_column, time_column, start_column, length_column, cell, track_total, reference_total, sample_total, track_in, reference_in, before_in, owner_in, sample_entry_in, layout_in, inside, content_in, recording_in}
use Rattle.tables.proofs.Layouts.{total_fits}
use Rattle.tables.proofs.Numbers.{kind_back, size_back}
use Rattle.filling.specs.Filling.{write_rows, count_cells, samples_before, track_cells, reference_cells, sample_cells, table_of, needed}
use Rattle.filling.proofs.Sorted.{below, owner_here}
use Rattle.filling.proofs.Rows.{rows_kept}

-- counts within their limits, samples in order, and the bytes of each where it starts in b
pub record Tabled (b : List ℕ) (r : Recording) (starts : ℕ → ℕ) : Type 0 where
  pub limits : LimitsKept b r.layout
  pub ordered : Ordered r.layout
  pub all : length r.contents ≡ sample_count r.layout
  pub placed : (i : ℕ) → i < sample_count r.layout → inside b (starts (i + 1)) (length (get_or r.contents i [])) ≡ get_or r.contents i []

module _ (cells : ℕ → List ℕ) (wide : (k : ℕ) → length (cells k) ≡ columns) (t : List ℕ) (row n : ℕ) (fits : row * columns + n * columns ≤ length t) where
  pub rows_cell : (i c : ℕ) → i < n → c < columns → cell (write_rows t row cells n) (row + i) c ≡ get_or (cells (i + 1)) c 0
  unfolding cell write_rows
  rows_cell i c h l =
      let e = rows_length cells wide n in
      let q : (row + i) * columns + c ≡ row * columns + (i * columns + c) = omega arith in
      ap (λ (x : ℕ). get_or (write_at t (row * columns) (each cells (upto n))) x 0) q
      ∙ write_here t (row * columns) (each cells (upto n)) (omega arith) (i * columns + c) (omega arith)
      ∙ rows_at cells wide n i c h l

  pub rows_before : (r c : ℕ) → r < row → c < columns → cell (write_rows t row cells n) r c ≡ cell t r c
  unfolding cell write_rows
  rows_before r c h l = let e = rows_length cells wide n in write_before t (row * columns) (each cells (upto n)) (omega arith) (r * columns + c) (omega arith)

  pub rows_after : (r c : ℕ) → row + n ≤ r → cell (write_rows t row cells n) r c ≡ cell t r c
  unfolding cell write_rows
  rows_after r c h = let e = rows_length cells wide n in write_after t (row * columns) (each cells (upto n)) (omega arith) (r * columns + c) (omega arith)

module _ (b t : List ℕ) (r : Recording) (starts : ℕ → ℕ) (h : Tabled b r starts) (room : needed r ≤ length t) where
  abbrev y : Layout
  y = r.layout

  abbrev tracks : ℕ
  tracks = length y.tracks

  abbrev references : ℕ
  references = length y.references

  abbrev samples : ℕ
  samples = sample_count y

  -- the table, section by section
  counted : List ℕ
  counted = write_at t (counts_row * columns) (count_cells y)

  tracked : List ℕ
  tracked = write_rows counted (track_row 1) (track_cells y) tracks

  referred : List ℕ
  referred = write_rows tracked (reference_row 1) (reference_cells y) references

  pub filled : List ℕ
  filled = write_rows referred (sample_row 1) (sample_cells r starts) samples

  pub filled_is : table_of r starts t ≡ filled
  unfolding table_of filled referred tracked counted
  filled_is = refl

  few : (tracks ≤ track_most) × (references ≤ reference_most) × (samples ≤ sample_most)
  few = (h.limits.tracks.1, h.limits.references, h.limits.samples)

  counted_length : length counted ≡ length t
  unfolding counted
  counted_length = write_length t (counts_row * columns) (count_cells y) (omega arith)

  tracked_fits : track_row 1 * columns + tracks * columns ≤ length counted
  tracked_fits = let l = counted_length in let f = few in omega arith

  tracked_length : length tracked ≡ length t
  unfolding tracked
  tracked_length = rows_kept (track_cells y) (λ k. refl) counted (track_row 1) tracks tracked_fits ∙ counted_length

  referred_fits : reference_row 1 * columns + references * columns ≤ length tracked
  referred_fits = let l = tracked_length in let f = few in omega arith

  referred_length : length referred ≡ length t
  unfolding referred
  referred_length = rows_kept (reference_cells y) (λ k. refl) tracked (reference_row 1) references referred_fits ∙ tracked_length

  filled_fits : sample_row 1 * columns + samples * columns ≤ length referred
  filled_fits = let l = referred_length in omega arith

  -- its numbers
  above_samples : (q c : ℕ) → q < sample_row 1 → c < columns → cell filled q c ≡ cell referred q c
  unfolding filled
  above_samples q c g l = rows_before (sample_cells r starts) (λ k. refl) referred (sample_row 1) samples filled_fits q c g l

  above_references : (q c : ℕ) → q < reference_row 1 → c < columns → cell referred q c ≡ cell tracked q c
  unfolding referred
  above_references q c g l = rows_before (reference_cells y) (λ k. refl) tracked (reference_row 1) references referred_fits q c g l

  above_tracks : (q c : ℕ) → q < track_row 1 → c < columns → cell tracked q c ≡ cell counted q c
  unfolding tracked
  above_tracks q c g l = rows_before (track_cells y) (λ k. refl) counted (track_row 1) tracks tracked_fits q c g l

  in_counts : (c : ℕ) → c < columns → cell counted counts_row c ≡ get_or (count_cells y) c 0
  unfolding counted cell
  in_counts c l = write_here t (counts_row * columns) (count_cells y) (omega arith) c l

  pub counts_cell : (c : ℕ) → c < columns → cell filled counts_row c ≡ get_or (count_cells y) c 0
  counts_cell c l = above_samples counts_row c (omega arith) l ∙ above_references counts_row c (omega arith) l ∙ above_tracks counts_row c (omega arith) l ∙ in_counts c l

  in_tracks : (i c : ℕ) → i < tracks → c < columns → cell tracked (track_row 1 + i) c ≡ get_or (track_cells y (i + 1)) c 0
  unfolding tracked
  in_tracks i c g l = rows_cell (track_cells y) (λ k. refl) counted (track_row 1) tracks tracked_fits i c g l

  pub track_cell : (i c : ℕ) → i < tracks → c < columns → cell filled (track_row (i + 1)) c ≡ get_or (track_cells y (i + 1)) c 0
  track_cell i c g l =
      let f = few in
      let z : track_row (i + 1) ≡ track_row 1 + i = omega arith in
      above_samples (track_row (i + 1)) c (omega arith) l ∙ above_references (track_row (i + 1)) c (omega arith) l ∙ ap (λ (x : ℕ). cell tracked x c) z ∙ in_tracks i c g l

  in_references : (i c : ℕ) → i < references → c < columns → cell referred (reference_row 1 + i) c ≡ get_or (reference_cells y (i + 1)) c 0
  unfolding referred
  in_references i c g l = rows_cell (reference_cells y) (λ k. refl) tracked (reference_row 1) references referred_fits i c g l

  pub reference_cell : (i c : ℕ) → i < references → c < columns → cell filled (reference_row (i + 1)) c ≡ get_or (reference_cells y (i + 1)) c 0
  reference_cell i c g l =
      let f = few in
      let z : reference_row (i + 1) ≡ reference_row 1 + i = omega arith in
      above_samples (reference_row (i + 1)) c (omega arith) l ∙ ap (λ (x : ℕ). cell referred x c) z ∙ in_references i c g l

  in_samples : (i c : ℕ) → i < samples → c < columns → cell filled (sample_row 1 + i) c ≡ get_or (sample_cells r starts (i + 1)) c 0
  unfolding filled
  in_samples i c g l = rows_cell (sample_cells r starts) (λ k. refl) referred (sample_row 1) samples filled_fits i c g l

  pub sample_cell_lem : (i c : ℕ) → i < samples → c < columns → cell filled (sample_row (i + 1)) c ≡ get_or (sample_cells r starts (i + 1)) c 0
  sample_cell_lem i c g l =
      let z : sample_row (i + 1) ≡ sample_row 1 + i = omega arith in
      ap (λ (x : ℕ). cell filled x c) z ∙ in_samples i c g l

  -- the counts
  track_total_lem : track_total filled ≡ tracks
  track_total_lem = rw (counts_cell tracks_column (omega arith)) (total_fits track_most tracks few.0)

  reference_total_lem : reference_total filled ≡ references
  reference_total_lem = rw (counts_cell references_column (omega arith)) (total_fits reference_most references few.1)

  pub sample_total_lem : sample_total filled ≡ samples
  sample_total_lem = rw (counts_cell samples_column (omega arith)) (total_fits sample_most samples few.2)

  nth_at : {A : Type 0} (xs : List A) (i : ℕ) (d : A) → nth xs (i + 1) d ≡ get_or xs i d
  unfolding nth
  nth_at xs i d = rw (add-one i)

  -- the tracks
  track_same : (i : ℕ) → i < tracks → track_in filled (i + 1) ≡ get_or y.tracks i no_track
  track_same i g =
      rw (
        track_cell i kind_column g (omega arith),
        track_cell i size_column g (omega arith),
        nth_at y.tracks i no_track,
        kind_back (get_or y.tracks i no_track).kind,
        size_back (get_or y.tracks i no_track).length_size,
      )

  tracks_same : map (track_in filled) (upto (track_total filled)) ≡ y.tracks
  tracks_same = rw track_total_lem (map_upto (track_in filled) y.tracks no_track tracks refl track_same)

  -- the references
  reference_same : (i : ℕ) → i < references → reference_in filled (i + 1) ≡ get_or y.references i no_reference
  reference_same i g = rw (reference_cell i from_column g (omega arith), reference_cell i to_column g (omega arith), nth_at y.references i no_reference)

  references_same : map (reference_in filled) (upto (reference_total filled)) ≡ y.references
  references_same = rw reference_total_lem (map_upto (reference_in filled) y.references no_reference references refl reference_same)

  -- the samples
  before_same : (k : ℕ) → Memᴰ k (upto tracks) → (before_in filled k) ≡ below k y.entries
  unfolding samples_before
  before_same k m =
      let u = upto_from tracks k m in
      let e : k - 1 + 1 ≡ k = omega arith in
      rw e at (track_cell (k - 1) before_column (omega arith) (omega arith))

  owner_same : (i : ℕ) → i < samples → owner_in filled (i + 1) ≡ (get_or y.entries i no_entry).track
  owner_same i g =
      rw track_total_lem
      (last_that_cong (λ k. before_in filled k <? i + 1) (λ k. below k y.entries <? i + 1) (upto tracks) (λ k m. rw (before_same k m))
      ∙ owner_here y.entries tracks i h.ordered.rise g (h.ordered.exist (get_d_mem y.entries i no_entry g)).1)

  entry_same : (i : ℕ) → i < samples → sample_entry_in filled (i + 1) ≡ get_or y.entries i no_entry
  entry_same i g = rw (owner_same i g, sample_cell_lem i time_column g (omega arith), ap (λ e. e.time) (nth_at y.entries i no_entry))

  entries_same : map (sample_entry_in filled) (upto (sample_total filled)) ≡ y.entries
  entries_same = rw sample_total_lem (map_upto (sample_entry_in filled) y.entries no_entry samples refl entry_same)

  pub filled_layout : layout_in filled ≡ y
  unfolding layout_in
  filled_layout = rw (tracks_same, references_same, entries_same)

  -- the bytes
  content_same : (i : ℕ) → i < samples → content_in b filled (i + 1) ≡ get_or r.contents i []
  content_same i g = rw (sample_cell_lem i start_column g (omega arith), sample_cell_lem i length_column g (omega arith), nth_at r.contents i []) (h.placed i g)

  pub filled_contents : map (content_in b filled) (upto (sample_total filled)) ≡ r.contents
  filled_contents = rw sample_total_lem (map_upto (content_in b filled) r.contents [] samples (sym h.all) content_same)

  pub filled_recording : recording_in b (table_of r starts t) ≡ r
  unfolding recording_in
  filled_recording = rw (filled_is, filled_layout, filled_contents)
