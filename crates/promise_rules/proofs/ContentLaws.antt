-- The proofs of what Contents says of a bundle's tracks, references and samples. Assumes nothing.
use Prim.Native.Nat.{ℕ, ◌+◌, ◌≤◌, ◌<◌}
use mathlib.Core.Path.{◌≡◌, refl, ap, sym, ◌∙◌}
use mathlib.Core.List.{List, []}
use mathlib.Core.Logic.{◌⊎◌, inl, inr, ⊎_elim, ◌↔◌}
use native.Mathlib.Omega.{arith}
use lib.ListN.{length, length-map}
use Rattle.words.specs.Refusals.{Answer, refused, ok}
use Rattle.words.specs.Lists.{nth, upto}
use Rattle.words.specs.Bytes.{Bytes, byte_at, big, part}
use Rattle.words.proofs.Refusals.{ok_refused, refused_same, by_answer}
use Rattle.words.proofs.Entries.{entries_length}
use Rattle.words.proofs.Joined.{nth_map}
use Rattle.words.proofs.Lists.{nth_mem}
use Rattle.words.proofs.Numbered.{nth_map as nth_number}
use Rattle.words.proofs.Rows.{upto_length, nth_upto}
use Rattle.numbers.specs.Kinds.{number_of_kind}
use Rattle.bundles.specs.Parts.{BundlePart}
use Rattle.bundles.specs.Recordings.{Recording, no_track, no_reference, sample_count, track_of, time_of, content_of}
use Rattle.bundles.specs.Tracks.{record_part}
use Rattle.bundles.specs.Readers.{first_layout}
use Rattle.resolution_rules.specs.Calls.{on_number, on_bundle}
use Rattle.resolution_rules.proofs.Calls.{number_good, number_bad, by_count}
use Rattle.resolution_rules.proofs.Readers.{first_layout_sound}
use Rattle.contents.specs.Contents.{TrackEntry, counts_call, track_call, reference_call, sample_call}
use Rattle.promise_rules.specs.Bundles.{two, three, entry, track_places, reference_places, TrackAt, BundleOf, Means}
use Rattle.promise_rules.specs.BundleFaults.{BundleRefused}
use Rattle.promise_rules.specs.Contents.{NumberRefused}
use Rattle.promise_rules.specs.Units.{sample_start, SampleMeans}
use Rattle.promise_rules.proofs.BundleLaws.{means_exactly, one_meaning}
use Rattle.promise_rules.proofs.UnitLaws.{sample_means}
use Rattle.promise_rules.proofs.RefusedLaws.{bundle_refused, refused_bundle}

-- a number of so many
module _ {A : Type 0} (count n : ℕ) (x : A) where
  number_told : 0 < n → n ≤ count → on_number count n (ok x) ≡ ok x
  number_told h l = rw (number_good count n h l)

  number_none : (n ≡ 0) ⊎ (count < n) → on_number count n (ok x) ≡ refused 30 0
  number_none h = rw (number_bad count n h)

  number_because : {m p : ℕ} → on_number count n (ok x) ≡ refused m p → ((n ≡ 0) ⊎ (count < n)) × (m ≡ 30) × (p ≡ 0)
  number_because e = by_count count n
      (λ h. let s = refused_same (sym (number_none h) ∙ e) in (h, sym s.0, sym s.1))
      (λ h l. ok_refused (sym e ∙ number_told h l))

module _ (b : List ℕ) (g : Bytes b) where
  -- a call on an accepted bundle that asks for a number of so many
  module _ {A : Type 0} (call : Recording → Answer A) (total : ℕ) (n : ℕ) (count : Recording → ℕ) (told : Recording → A)
      (asks : (r : Recording) → call r ≡ on_number (count r) n (ok (told r)))
      (so_many : (r : Recording) → first_layout.means b ≡ ok r → count r ≡ total)
    where
      refused_so : {m p : ℕ} → on_bundle first_layout b call ≡ refused m p → NumberRefused b total n m p
      refused_so {m} {p} e = by_answer (first_layout.means b)
          (λ k q f. let s = refused_same (rw f at e) in NumberRefused.bundle (bundle_refused b g (f ∙ rw (s.0, s.1))))
          (λ r f.
          let w = number_because (count r) n (told r) (sym (asks r) ∙ (rw f at e)) in
          rw (w.1, w.2) (NumberRefused.number (means_exactly b g r f).0 (⊎_elim (λ z. inl z) (λ l. inr (rw (← so_many r f) l)) w.0)))

      so_refused : {m p : ℕ} → NumberRefused b total n m p → on_bundle first_layout b call ≡ refused m p
      so_refused (NumberRefused.bundle w) = rw (refused_bundle b g w)
      so_refused (NumberRefused.number v h) =
          let w = one_meaning b g v in
          rw w.1 (asks w.0 ∙ number_none (count w.0) n (told w.0) (⊎_elim (λ z. inl z) (λ l. inr (rw (so_many w.0 w.1) l)) h))

      number_refused : (m p : ℕ) → (on_bundle first_layout b call ≡ refused m p) ↔ NumberRefused b total n m p
      number_refused m p = (refused_so, so_refused)

  -- how many
  tracks_are : (r : Recording) → first_layout.means b ≡ ok r → length r.layout.tracks ≡ big b 0 1
  tracks_are r e = (means_exactly b g r e).1.tracks

  references_are : (r : Recording) → first_layout.means b ≡ ok r → length r.layout.references ≡ big b (two b) 1
  references_are r e =
      ap length (means_exactly b g r e).1.references ∙ length-map (reference_places b) _ ∙ entries_length (λ p. p + 2) (big b (two b) 1) (two b + 1)

  samples_are : (r : Recording) → first_layout.means b ≡ ok r → sample_count r.layout ≡ big b (three b) 2
  samples_are r e = ap length (means_exactly b g r e).1.entries ∙ length-map (upto (big b (three b) 2)) _ ∙ upto_length (big b (three b) 2)

  pub counts_refused : (m p : ℕ) → (counts_call first_layout b ≡ refused m p) ↔ BundleRefused b m p
  unfolding counts_call
  counts_refused m p = (
    λ e. by_answer (first_layout.means b)
        (λ k q f. let s = refused_same (rw f at e) in bundle_refused b g (f ∙ rw (s.0, s.1)))
        (λ r f. ok_refused (sym (rw f at e))),
    λ w. rw (refused_bundle b g w),
  )

  pub track_refused : (k m p : ℕ) → (track_call first_layout b k ≡ refused m p) ↔ NumberRefused b (big b 0 1) k m p
  unfolding track_call
  track_refused k = number_refused _ (big b 0 1) k (λ r. length r.layout.tracks) (λ r. record { kind = (nth r.layout.tracks k no_track).kind; stands = record_part b k }) (λ r. refl) tracks_are

  pub reference_refused : (i m p : ℕ) → (reference_call first_layout b i ≡ refused m p) ↔ NumberRefused b (big b (two b) 1) i m p
  unfolding reference_call
  reference_refused i = number_refused _ (big b (two b) 1) i (λ r. length r.layout.references) (λ r. nth r.layout.references i no_reference) (λ r. refl) references_are

  pub sample_refused : (n m p : ℕ) → (sample_call first_layout b n ≡ refused m p) ↔ NumberRefused b (big b (three b) 2) n m p
  unfolding sample_call
  sample_refused n = number_refused _ (big b (three b) 2) n (λ r. sample_count r.layout)
      (λ r. record { track = track_of r.layout n; time = time_of r.layout n; stands = record { start = first_layout.content_at b n; size = length (content_of r n) } })
      (λ r. refl) samples_are

  -- an accepted bundle
  module _ (r : Recording) (accepted : first_layout.means b ≡ ok r) where
    says : BundleOf b × Means b r
    says = means_exactly b g r accepted

    pub counts_told : counts_call first_layout b ≡ ok (record { tracks = big b 0 1; references = big b (two b) 1; samples = big b (three b) 2 })
    unfolding counts_call
    counts_told = rw (accepted, tracks_are r accepted, references_are r accepted, samples_are r accepted)

    -- track k
    module _ (k : ℕ) (h : 0 < k) (l : k ≤ big b 0 1) where
      abbrev place : ℕ
      place = nth (track_places b) k 0

      pub track_at_lem : TrackAt b place
      track_at_lem = says.0.tracks.each place (nth_mem (track_places b) k 0 h (rw (entries_length (λ p. p + 3 + big b (p + 1) 2) (big b 0 1) 1) l))

      part_is : record_part b k ≡ record { start = place + 3; size = big b (place + 1) 2 }
      unfolding record_part
      part_is = refl

      kind_is : number_of_kind (nth r.layout.tracks k no_track).kind ≡ byte_at b place
      kind_is = ⊎_elim
          (λ w. ap number_of_kind w.1 ∙ sym w.0)
          (λ w. ap number_of_kind w.1 ∙ sym w.0)
          (says.1.track k h l).kind

      pub track_told :
          (e : TrackEntry) × (track_call first_layout b k ≡ ok e) × (number_of_kind e.kind ≡ byte_at b place)
          × (e.stands.start ≡ place + 3) × (e.stands.size ≡ big b (place + 1) 2)
      unfolding track_call
      track_told =
          let c = tracks_are r accepted in (
            record { kind = (nth r.layout.tracks k no_track).kind; stands = record_part b k },
            rw accepted (number_told _ k _ h (omega arith)),
            kind_is,
            ap (λ (q : BundlePart). q.start) part_is,
            ap (λ (q : BundlePart). q.size) part_is,
          )

    -- reference i
    module _ (i : ℕ) (h : 0 < i) (l : i ≤ big b (two b) 1) where
      abbrev from : ℕ
      from = nth (reference_places b) i 0

      reference_is : nth r.layout.references i no_reference ≡ record { from = big b from 1; to = big b (from + 1) 1 }
      reference_is =
          ap (λ fs. nth fs i no_reference) says.1.references
          ∙ nth_map (λ p. record { from = big b p 1; to = big b (p + 1) 1 }) (reference_places b) i 0 no_reference h (rw (entries_length (λ p. p + 2) (big b (two b) 1) (two b + 1)) l)

      pub reference_told : reference_call first_layout b i ≡ ok (record { from = big b from 1; to = big b (from + 1) 1 })
      unfolding reference_call
      reference_told = let c = references_are r accepted in rw accepted (number_told _ i _ h (omega arith) ∙ ap ok reference_is)

    -- sample n
    module _ (n : ℕ) (h : 0 < n) (l : n ≤ big b (three b) 2) where
      there : n ≤ sample_count r.layout
      there = let c = samples_are r accepted in omega arith

      means : SampleMeans b r n
      means = sample_means b g r accepted n h there

      size_is : length (content_of r n) ≡ big b (entry b n + 9) 4
      size_is =
          sym (nth_number length r.contents n [])
          ∙ ap (λ ns. nth ns n 0) says.1.lengths
          ∙ nth_upto (λ m. big b (entry b m + 9) 4) (big b (three b) 2) n 0 h l

      pub sample_told :
          sample_call first_layout b n
          ≡ ok (record {
            track = big b (entry b n) 1;
            time = big b (entry b n + 1) 8;
            stands = record { start = sample_start b n; size = big b (entry b n + 9) 4 };
          })
      unfolding sample_call
      sample_told = rw (accepted, means.track, means.time, means.start, size_is) (number_told _ n _ h there)

      pub sample_inside : (sample_start b n + big b (entry b n + 9) 4 ≤ length b) × (part b (sample_start b n) (big b (entry b n + 9) 4) ≡ content_of r n)
      sample_inside = (rw (← means.start, ← size_is) (first_layout_sound.inside b r n accepted h there), sym means.bytes)
