-- What the calls answer, step by step as the code takes them. Assumes nothing.
--
--   counts-, track-, reference-, sample_refused  of a bundle that is refused
--   counts_filled                                the counts by a table that was filled
--   track_past, reference_past, sample_past      30
--   track_there                                  a track that exists, by the bundle
--   track_found, reference_found, sample_found   what is told of a number that exists
use Rattle.std.specs.Prelude.{Ok}
use Prim.Native.Nat.{ℕ, ◌≤◌, ◌<◌}
use mathlib.Core.Path.{◌≡◌, ap, sym, ◌∙◌}
use mathlib.Core.List.{List}
use native.Mathlib.Omega.{arith}
use lib.ListN.{length}
use Rattle.words.specs.Refusals.{refused, ok}
use Rattle.words.specs.Lists.{nth}
use Rattle.words.proofs.Refusals.{at_refused}
use Rattle.words.proofs.Rows.{nth_upto}
use Rattle.bundles.specs.Recordings.{Recording, no_track, no_reference, sample_count, track_of, time_of, content_of}
use Rattle.bundles.specs.Tracks.{track_count, record_part}
use Rattle.bundles.specs.Bundles.{bundle_verdict, layout_of, recording_of}
use Rattle.bundles.specs.Readers.{first_layout}
use Rattle.bundles.proofs.Sections.{track_count_lem}
use Rattle.tables.specs.Tables.{track_total, reference_total, reference_in, layout_in, recording_in, start_in}
use Rattle.tables.proofs.Layouts.{tracks_count, references_count}
use Rattle.filling.specs.Filling.{filling, table_after}
use Rattle.filling.proofs.Promises.{says_done, table_accepted, table_means, table_starts, table_lays_out}
use Rattle.resolution_rules.specs.Calls.{number_fault}
use Rattle.resolution_rules.proofs.Calls.{number_there}
use Rattle.contents.specs.Contents.{counts_call, track_call, reference_call, sample_call}

module _ (b : List ℕ) where
  module _ {m p : ℕ} (e : first_layout.means b ≡ refused m p) where
    pub counts_refused : counts_call first_layout b ≡ refused m p
    unfolding counts_call
    counts_refused = rw e

    pub track_refused : (k : ℕ) → track_call first_layout b k ≡ refused m p
    unfolding track_call
    track_refused k = rw e

    pub reference_refused : (i : ℕ) → reference_call first_layout b i ≡ refused m p
    unfolding reference_call
    reference_refused i = rw e

    pub sample_refused : (n : ℕ) → sample_call first_layout b n ≡ refused m p
    unfolding sample_call
    sample_refused n = rw e

-- a table that was filled
module _ (b t : List ℕ) (done : filling first_layout b (length t) ≡ (Ok tt)) {s : List ℕ} (f : s ≡ table_after first_layout b t) where
  abbrev R : Recording
  R = recording_of b

  means : first_layout.means b ≡ ok R
  means = table_accepted b t done

  says : layout_in s ≡ R.layout
  says = ap layout_in f ∙ table_lays_out b t R means done

  gives : recording_in b s ≡ R
  gives = ap (recording_in b) f ∙ table_means b t done

  tracks_are : length R.layout.tracks ≡ track_total s
  tracks_are = ap (λ y. length y.tracks) (sym says) ∙ tracks_count s

  references_are : length R.layout.references ≡ reference_total s
  references_are = ap (λ y. length y.references) (sym says) ∙ references_count s

  pub counts_filled : counts_call first_layout b ≡ ok (record { tracks = track_total s; references = reference_total s; samples = sample_count (layout_in s) })
  unfolding counts_call
  counts_filled = rw (means, tracks_are, references_are, says)

  -- 30
  pub track_past : (k : ℕ) {z : ℕ} → z ≡ number_fault (track_total s) k → (z ≡ 0 → ⊥) → track_call first_layout b k ≡ refused z 0
  unfolding track_call
  track_past k e h = rw (means, tracks_are, at_refused 0 e h)

  pub reference_past : (i : ℕ) {z : ℕ} → z ≡ number_fault (reference_total s) i → (z ≡ 0 → ⊥) → reference_call first_layout b i ≡ refused z 0
  unfolding reference_call
  reference_past i e h = rw (means, references_are, at_refused 0 e h)

  pub sample_past : (n : ℕ) {z : ℕ} → z ≡ number_fault (sample_count (layout_in s)) n → (z ≡ 0 → ⊥) → sample_call first_layout b n ≡ refused z 0
  unfolding sample_call
  sample_past n e h = rw (means, ← says, at_refused 0 e h)

  -- a number that exists
  pub track_there : (k : ℕ) → number_fault (track_total s) k ≡ 0 → (bundle_verdict b ≡ ok tt) × (0 < k) × (k ≤ track_count b)
  unfolding layout_of recording_of
  track_there k e =
      let w = number_there (track_total s) k e in
      let l = tracks_are in
      let g = track_count_lem b in
      (says_done b (length t) done, w.0, omega (arith, w.1))

  pub track_found : (k : ℕ) → number_fault (track_total s) k ≡ 0 → track_call first_layout b k ≡ ok (record { kind = (nth (layout_in s).tracks k no_track).kind; stands = record_part b k })
  unfolding track_call
  track_found k e = rw (means, tracks_are, e, says)

  here : (i : ℕ) → 0 < i → i ≤ reference_total s → nth R.layout.references i no_reference ≡ reference_in s i
  unfolding layout_in
  here i h l = rw (← says) (nth_upto (reference_in s) (reference_total s) i no_reference h l)

  pub reference_found : (i : ℕ) → number_fault (reference_total s) i ≡ 0 → reference_call first_layout b i ≡ ok (reference_in s i)
  unfolding reference_call
  reference_found i e = let w = number_there _ _ e in rw (means, references_are, e, here i w.0 w.1)

  pub sample_found :
      (n : ℕ) → number_fault (sample_count (layout_in s)) n ≡ 0 →
      sample_call first_layout b n ≡ ok (record {
        track = track_of (layout_in s) n;
        time = time_of (layout_in s) n;
        stands = record { start = start_in s n; size = length (content_of (recording_in b s) n) };
      })
  unfolding sample_call
  sample_found n e =
      let w = number_there _ _ e in
      let at : start_in s n ≡ first_layout.content_at b n = ap (λ x. start_in x n) f ∙ table_starts b t R means done n w.0 (rw says at w.1) in
      rw (means, ← says, e, gives, at)
