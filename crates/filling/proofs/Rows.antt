-- The rows of a table that is filled from a bundle, one after the other. Assumes nothing.
--
--   rows_none, rows_next, rows_put, rows_kept         no row yet; one row more; the length stays
--   counts                                            the counts of the recording
--   track_row_lem, reference_row_lem, sample_row_lem  the numbers of a row, as the bundle has them
--   before_on, before_off, before_most, before_grow   how many samples stand before a track's, found by going on
--   track_sound, reference_sound, entry_sound         an entry of an accepted bundle, by its number
--   start_of, start_first, start_next, start_inside   where a sample's bytes start
use Rattle.std.specs.Prelude.{None}
use Prim.Native.Nat.{ℕ, suc, ◌+◌, ◌-◌, ◌*◌, ◌≤◌, ◌<◌}
use mathlib.Core.Path.{◌≡◌, ap, ◌∙◌}
use mathlib.Core.List.{List, [], ◌∷◌}
use native.Mathlib.Omega.{arith}
use native.Mathlib.Numerals.{add-one}
use lib.ListN.{length, get_or, take}
use lib.Seq.{take-suc}
use Rattle.words.specs.Lists.{nth, upto, each, sum}
use Rattle.words.specs.Walks.{skip}
use Rattle.words.specs.Bytes.{byte_at}
use Rattle.words.specs.Buffers.{write_at}
use Rattle.words.specs.Refusals.{ok}
use Rattle.words.proofs.Buffers.{write_none, write_write, write_length}
use Rattle.words.proofs.Entries.{entries_length, entries_at_lem, entries_mem, map_at, sum_append}
use Rattle.words.proofs.Rows.{rows_length, rows_more, take_sum_le, nth_upto}
use Rattle.bundles.specs.Fields.{reference_count_size, reference_size, sample_entry_size, byte_count_size}
use Rattle.bundles.specs.Recordings.{no_reference, no_entry, time_of, content_of}
use Rattle.bundles.specs.Tracks.{track_count, tracks_at, track_end, track_fault, kind_at, record_at, record_fault_as, size_at, references_at}
use Rattle.bundles.specs.References.{from, to, reference_count, reference_places, reference_on, references}
use Rattle.bundles.specs.Samples.{entry_count, entries_at, entry_at, track, time, length_at, entry_on, sample_entries, lengths, byte_count_at}
use Rattle.bundles.specs.Bundles.{bundle_verdict, layout_of, recording_of, contents_at, content_at}
use Rattle.bundles.proofs.Sections.{Samples, Accepted, track_count_lem, reference_count_lem, sample_count_lem, lengths_count, track_good, reference_good, entry_good}
use Rattle.bundles.proofs.Checking.{track_at_lem, good_size}
use Rattle.bundles.proofs.Order.{entries_rise}
use Rattle.bundles.proofs.Replacing.{length_is}
use Rattle.tables.specs.Tables.{columns}
use Rattle.tables.proofs.Numbers.{number_back}
use Rattle.filling.specs.Filling.{write_rows, count_cells, samples_before, track_cells, reference_cells, sample_cells}
use Rattle.filling.proofs.Sorted.{below_most, below_more, above_here, below_here}

module _ (cells : ℕ → List ℕ) (wide : (k : ℕ) → length (cells k) ≡ columns) (t : List ℕ) (row : ℕ) where
  pub rows_none : t ≡ write_rows t row cells 0
  unfolding write_rows upto each
  rows_none = write_none t (row * columns)

  pub rows_kept : (n : ℕ) → row * columns + n * columns ≤ length t → length (write_rows t row cells n) ≡ length t
  unfolding write_rows
  rows_kept n h = let l = rows_length cells wide n in write_length t (row * columns) (each cells (upto n)) (omega arith)

  pub rows_next : (k at : ℕ) → at ≡ row + k → row * columns + (k + 1) * columns ≤ length t → write_at (write_rows t row cells k) (at * columns) (cells (k + 1)) ≡ write_rows t row cells (k + 1)
  unfolding write_rows
  rows_next k at e h =
      let l = rows_length cells wide k in
      let q : at * columns ≡ row * columns + length (each cells (upto k)) = omega arith in
      rw (q, rows_more cells wide k) (write_write t (row * columns) (each cells (upto k)) (cells (k + 1)) (omega arith))

  -- the row after the first k is written over
  pub rows_put : (k at : ℕ) {s x : List ℕ} → s ≡ write_rows t row cells k → x ≡ cells (k + 1) → at ≡ row + k → row * columns + (k + 1) * columns ≤ length t → write_at s (at * columns) x ≡ write_rows t row cells (k + 1)
  rows_put k at e f g h = rw (e, f) (rows_next k at g h)

module _ (b : List ℕ) where
  pub counts : track_count b ∷ reference_count b ∷ entry_count b ∷ 0 ∷ [] ≡ count_cells (layout_of b)
  unfolding layout_of
  counts = rw (track_count_lem b, reference_count_lem b, sample_count_lem b)

  -- entry n of section three
  pub entry_at_lem : (n : ℕ) → 0 < n → n ≤ entry_count b → nth (sample_entries b) n no_entry ≡ entry_on b (entry_at b n)
  unfolding sample_entries
  entry_at_lem n h l = nth_upto (λ m. entry_on b (entry_at b m)) (entry_count b) n no_entry h l

  length_at_lem : (n : ℕ) → 0 < n → n ≤ entry_count b → nth (lengths b) n 0 ≡ length_at b (entry_at b n)
  unfolding lengths
  length_at_lem n h l = nth_upto (λ m. length_at b (entry_at b m)) (entry_count b) n 0 h l

  length_here : (i : ℕ) → i < entry_count b → get_or (lengths b) i 0 ≡ length_at b (entry_at b (i + 1))
  unfolding nth
  length_here i h = rw (add-one i) (length_at_lem (suc i) (omega arith) (omega arith))

  -- where the bytes of the sample after the first i start
  abbrev pub start_of : ℕ → ℕ
  start_of i = contents_at b + sum (take i (lengths b))

  pub start_first : start_of 0 ≡ entries_at b + entry_count b * sample_entry_size + byte_count_size
  unfolding byte_count_at sum
  start_first = omega arith

  pub start_next : (i : ℕ) → i < entry_count b → start_of i + length_at b (entry_at b (i + 1)) ≡ start_of (i + 1)
  unfolding sum
  start_next i h =
      let l = lengths_count b in
      let g : i < length (lengths b) = omega arith in
      rw (← length_here i h, add-one i, take-suc (lengths b) i 0 g, sum_append (take i (lengths b)) (get_or (lengths b) i 0 ∷ [])) (omega arith)

-- how many samples stand before a track's
module _ (b : List ℕ) (good : Samples b) where
  place_is : (i : ℕ) → entry_at b (suc i) ≡ entries_at b + i * sample_entry_size
  place_is i = omega arith

  entry_is : (i : ℕ) → i < entry_count b → get_or (sample_entries b) i no_entry ≡ entry_on b (entries_at b + i * sample_entry_size)
  unfolding nth
  entry_is i h = entry_at_lem b (suc i) (omega arith) (omega arith) ∙ ap (entry_on b) (place_is i)

  counted : (i : ℕ) → i < entry_count b → i < length (sample_entries b)
  counted i h = rw (sample_count_lem b) h

  pub before_on : (k i : ℕ) → i < entry_count b → track b (entries_at b + i * sample_entry_size) < k → i < samples_before (layout_of b) k
  unfolding samples_before layout_of
  before_on k i h l = above_here k (sample_entries b) i (entries_rise b good) (counted i h) (rw (entry_is i h) l)

  pub before_off : (k i : ℕ) → i < entry_count b → k ≤ track b (entries_at b + i * sample_entry_size) → samples_before (layout_of b) k ≤ i
  unfolding samples_before layout_of
  before_off k i h l = below_here k (sample_entries b) i (entries_rise b good) (counted i h) (rw (entry_is i h) l)

  pub before_most : (k : ℕ) → samples_before (layout_of b) k ≤ entry_count b
  unfolding samples_before layout_of
  before_most k = rw (← sample_count_lem b) (below_most k (sample_entries b))

  pub before_grow : (k : ℕ) → samples_before (layout_of b) k ≤ samples_before (layout_of b) (k + 1)
  unfolding samples_before layout_of
  before_grow k = below_more k (sample_entries b)

pub start_inside : (b : List ℕ) (i : ℕ) → Accepted b → i ≤ entry_count b → start_of b i ≤ length b
start_inside b i a h = let e = a.bytes.end in let s = take_sum_le (lengths b) i in omega arith

-- entries of an accepted bundle
module _ (b : List ℕ) (a : Accepted b) where
  pub track_sound : (i p : ℕ) → i < track_count b → p ≡ skip (track_end b) i (tracks_at b) → track_fault b p ≡ 0
  track_sound i p h e = rw e (a.tracks.each (entries_mem (track_end b) (track_count b) (tracks_at b) i h))

  pub reference_sound : (i p : ℕ) → i < reference_count b → p ≡ skip (λ q. q + reference_size) i (references_at b + reference_count_size) → p + reference_size ≤ length b
  reference_sound i p h e =
      rw e (reference_good b (skip (λ q. q + reference_size) i (references_at b + reference_count_size)) (a.references.each (entries_mem (λ q. q + reference_size) (reference_count b) (references_at b + reference_count_size) i h))).inside

  pub entry_sound : (i p : ℕ) → i < entry_count b → p ≡ entry_at b (i + 1) → p + sample_entry_size ≤ length b
  entry_sound i p h e = rw e (entry_good b (i + 1) (a.samples.each (i + 1) (omega arith) (omega arith))).inside

  pub entries_inside : entries_at b + entry_count b * sample_entry_size ≤ length b
  entries_inside = (unfold byte_count_at in a.samples.inside)

  -- the kind of an accepted track is known
  known : (p : ℕ) → track_fault b p ≡ 0 → kind_at b p ≡ None → ⊥
  known p f u = let e : record_fault_as None (record_at b p) ≡ 0 = rw u at (track_good b p f).whole in omega arith

  -- the numbers of a row
  pub track_row_lem : (k p : ℕ) → k < track_count b → p ≡ skip (track_end b) k (tracks_at b) → byte_at b p ∷ size_at b p ∷ samples_before (layout_of b) (k + 1) ∷ 0 ∷ [] ≡ track_cells (layout_of b) (k + 1)
  unfolding layout_of
  track_row_lem k p h e =
      let f = track_sound k p h e in
      rw (track_at_lem b k h, ← e, good_size b p f, number_back (byte_at b p) (known p f))

  reference_at : (i : ℕ) → i < reference_count b → nth (references b) (i + 1) no_reference ≡ reference_on b (skip (λ q. q + reference_size) i (references_at b + reference_count_size))
  unfolding nth references
  reference_at i h =
      let l = entries_length (λ q. q + reference_size) (reference_count b) (references_at b + reference_count_size) in
      rw (add-one i) (map_at (reference_on b) (reference_places b) i 0 no_reference (omega arith) ∙ ap (reference_on b) (entries_at_lem (λ q. q + reference_size) (reference_count b) (references_at b + reference_count_size) i h))

  pub reference_row_lem : (i p : ℕ) → i < reference_count b → p ≡ skip (λ q. q + reference_size) i (references_at b + reference_count_size) → from b p ∷ to b p ∷ 0 ∷ 0 ∷ [] ≡ reference_cells (layout_of b) (i + 1)
  unfolding layout_of
  reference_row_lem i p h e = rw (reference_at i h, e)

pub sample_row_lem :
    (b : List ℕ) (i p : ℕ) → bundle_verdict b ≡ ok tt → i < entry_count b → p ≡ entry_at b (i + 1) →
    time b p ∷ start_of b i ∷ length_at b p ∷ 0 ∷ [] ≡ sample_cells (recording_of b) (content_at b) (i + 1)
sample_row_lem b i p good h e =
    rw (entry_time, content_length, start) (ap (λ (q : ℕ). time b q ∷ start_of b i ∷ length_at b q ∷ 0 ∷ []) e)
  where
    entry_time : time_of (recording_of b).layout (i + 1) ≡ time b (entry_at b (i + 1))
    entry_time = (unfold recording_of layout_of in ap (λ e. e.time) (entry_at_lem b (i + 1) (omega arith) (omega arith)))

    content_length : length (content_of (recording_of b) (i + 1)) ≡ length_at b (entry_at b (i + 1))
    content_length = let l = lengths_count b in ap (λ (n : ℕ). length (content_of (recording_of b) n)) (add-one i) ∙ length_is b i good (omega arith) ∙ length_here b i h

    start : content_at b (i + 1) ≡ start_of b i
    start = (unfold content_at in let s : i + 1 - 1 ≡ i = omega arith in ap (λ (k : ℕ). contents_at b + sum (take k (lengths b))) s)
