-- What a table says, number by number, for any table. Assumes nothing.
--
--   tracks_count, references_count, samples_count    the counts
--   samples_most                                     there are at most so many samples
--   track_here, track_none, track_past               track k
--   entry_here, entry_none, entry_past               sample n, but its bytes
--   content_here, content_none, content_past         its bytes
--   total_fits, total_most                           a count within its limit, and one beyond it
use Prim.Native.Nat.{ℕ, ◌≤◌, ◌<◌}
use mathlib.Core.Path.{◌≡◌, ◌∙◌}
use mathlib.Core.List.{List, []}
use native.Mathlib.Omega.{arith}
use borrow.Author.Tests.{le-leb, lt-leb, leb-true}
use lib.Dec.{leb}
use lib.ListN.{length, length-map}
use Rattle.words.specs.Lists.{nth, upto}
use Rattle.words.proofs.Tests.{by_bool}
use Rattle.bundles.specs.Limits.{sample_most}
use Rattle.bundles.specs.Recordings.{no_track, no_entry, sample_count, content_of}
use Rattle.tables.specs.Tables.{at_most, counts_row, samples_column, cell, track_total, reference_total, sample_total, track_in, reference_in, sample_entry_in, content_in, layout_in, recording_in}
use Rattle.words.proofs.Rows.{upto_length, nth_upto, nth_past, nth_none}

pub total_fits : (most n : ℕ) → n ≤ most → at_most most n ≡ n
total_fits most n h = rw (le-leb n most h)

pub total_most : (most n : ℕ) → most < n → at_most most n ≡ most
total_most most n h = rw (lt-leb n most h)

module _ (t : List ℕ) where
  pub tracks_count : length (layout_in t).tracks ≡ track_total t
  unfolding layout_in
  tracks_count = length-map (upto (track_total t)) (track_in t) ∙ upto_length (track_total t)

  pub references_count : length (layout_in t).references ≡ reference_total t
  unfolding layout_in
  references_count = length-map (upto (reference_total t)) (reference_in t) ∙ upto_length (reference_total t)

  pub samples_count : sample_count (layout_in t) ≡ sample_total t
  unfolding layout_in
  samples_count = length-map (upto (sample_total t)) (sample_entry_in t) ∙ upto_length (sample_total t)

  pub samples_most : sample_count (layout_in t) ≤ sample_most
  samples_most = rw samples_count (by_bool (leb (cell t counts_row samples_column) sample_most) (λ q. rw q (leb-true (cell t counts_row samples_column) sample_most q)) (λ q. rw q (omega arith)))

  pub track_here : (k : ℕ) → 0 < k → k ≤ track_total t → nth (layout_in t).tracks k no_track ≡ track_in t k
  unfolding layout_in
  track_here k h l = nth_upto (track_in t) (track_total t) k no_track h l

  pub track_none : (k : ℕ) → k ≡ 0 → nth (layout_in t).tracks k no_track ≡ no_track
  track_none k e = rw e (nth_none (layout_in t).tracks no_track)

  pub track_past : (k : ℕ) → track_total t < k → nth (layout_in t).tracks k no_track ≡ no_track
  unfolding layout_in
  track_past k h = nth_past (track_in t) (track_total t) k no_track h

  pub entry_here : (n : ℕ) → 0 < n → n ≤ sample_total t → nth (layout_in t).entries n no_entry ≡ sample_entry_in t n
  unfolding layout_in
  entry_here n h l = nth_upto (sample_entry_in t) (sample_total t) n no_entry h l

  pub entry_none : (n : ℕ) → n ≡ 0 → nth (layout_in t).entries n no_entry ≡ no_entry
  entry_none n e = rw e (nth_none (layout_in t).entries no_entry)

  pub entry_past : (n : ℕ) → sample_total t < n → nth (layout_in t).entries n no_entry ≡ no_entry
  unfolding layout_in
  entry_past n h = nth_past (sample_entry_in t) (sample_total t) n no_entry h

module _ (b t : List ℕ) where
  pub content_here : (n : ℕ) → 0 < n → n ≤ sample_total t → content_of (recording_in b t) n ≡ content_in b t n
  unfolding recording_in
  content_here n h l = nth_upto (content_in b t) (sample_total t) n [] h l

  pub content_none : (n : ℕ) → n ≡ 0 → content_of (recording_in b t) n ≡ []
  content_none n e = rw e (nth_none (recording_in b t).contents [])

  pub content_past : (n : ℕ) → sample_total t < n → content_of (recording_in b t) n ≡ []
  unfolding recording_in
  content_past n h = nth_past (content_in b t) (sample_total t) n [] h
