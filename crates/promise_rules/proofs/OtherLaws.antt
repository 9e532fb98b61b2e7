-- The proofs of what Demands, Contents and Request02 say of units, and of what a bundle holds, after a sample's bytes are replaced.
-- The idea: where a sample starts follows from the length of the bundle and the lengths of the samples, which are kept. Assumes nothing.
use Prim.Native.Nat.{ℕ, zero, suc, ◌+◌, ◌-◌, ◌≤◌, ◌<◌}
use mathlib.Core.Path.{◌≡◌, refl, ap, ap₂, sym, ◌∙◌}
use mathlib.Core.List.{List, [], ◌∷◌, map, append_cancel_left}
use native.Mathlib.Omega.{arith}
use lib.ListN.{length, get_or, take, drop, set, length-append, length-take, length-drop}
use lib.Seq.{take_at, drop_at}
use Rattle.words.specs.Refusals.{Answer, refused, ok}
use Rattle.words.specs.Lists.{each, nth, sum}
use Rattle.words.specs.Bytes.{bytes, splice}
use Rattle.words.specs.Buffers.{within}
use Rattle.words.proofs.Numbered.{nth_map as nth_number}
use Rattle.words.proofs.Refusals.{by_verdict}
use Rattle.words.proofs.Splices.{splice_length}
use Rattle.bundles.specs.Recordings.{Recording, sample_count, content_of, set_nth, replaced}
use Rattle.bundles.specs.Readers.{first_layout}
use Rattle.bundles.specs.Samples.{lengths}
use Rattle.bundles.specs.Bundles.{bundle_verdict, contents_at, content_at}
use Rattle.bundles.proofs.Promises.{means, samples_tile}
use Rattle.bundles.proofs.Replacing.{records_replaced}
use Rattle.bundles.proofs.Sections as sections
use Rattle.byte_streams.specs.Writing.{to_stream}
use Rattle.copies.specs.Written.{length_before}
use Rattle.resolution_rules.specs.Resolving.{Span, judged, delivered}
use Rattle.resolution_rules.specs.Calls.{span_bytes, bytes_of, written, output, placed_by, unit_call, place_call, stream, stream_call, parts_by, parts_of, parts_call, named_in, named_call}
use Rattle.resolution_rules.proofs.Calls.{number_bad, by_count, parts_number, parts_sample, parts_good, parts_means, named_means}
use Rattle.resolution_rules.proofs.Streams.{stream_number, stream_sample, stream_good, stream_means}
use Rattle.resolution_rules.proofs.Readers.{first_layout_sound}
use Rattle.naming_list_rules.specs.Rules.{Unlisted}
use Rattle.naming_list_rules.proofs.Replaced.{layout_kept, sample_other, name_fault_other, named_other}
use Rattle.naming_list_rules.proofs.Others.{sample_kept}
use Rattle.unit_parts.proofs.Parts.{parts_same}
use Rattle.contents.specs.Contents.{counts_call, track_call, reference_call, sample_call}
use Rattle.promise_rules.proofs.AuditLaws.{others_unit as unit_same}

set_lengths : (cs : List (List ℕ)) (n : ℕ) (new : List ℕ) → length new ≡ length (get_or cs n []) → map (λ c. length c) (set cs n new) ≡ map (λ c. length c) cs
set_lengths [] n new e = refl
set_lengths (c ∷ cs) zero new e = ap (λ (k : ℕ). k ∷ map (λ d. length d) cs) e
set_lengths (c ∷ cs) (suc n) new e = ap (λ ks. length c ∷ ks) (set_lengths cs n new e)

nth_lengths : (cs : List (List ℕ)) (n : ℕ) (new : List ℕ) → length new ≡ length (nth cs n []) → map (λ c. length c) (set_nth cs n new) ≡ map (λ c. length c) cs
unfolding nth
nth_lengths cs zero new e = refl
nth_lengths cs (suc n) new e = set_lengths cs n new e

replaced_lengths : (r : Recording) (s : ℕ) (new : List ℕ) → length new ≡ length (content_of r s) → map (λ c. length c) (replaced r s new).contents ≡ map (λ c. length c) r.contents
unfolding replaced
replaced_lengths r s new e = nth_lengths r.contents s new e

contents_end : (b : List ℕ) (r : Recording) → first_layout.means b ≡ ok r → contents_at b + sum (lengths b) ≡ length b
contents_end b r e = (sections.accepted b (means b e).0).bytes.end

-- two accepted bundles of the same length, with samples of the same lengths
starts_same :
    (b c : List ℕ) (r q : Recording) → first_layout.means b ≡ ok r → first_layout.means c ≡ ok q → length c ≡ length b →
    map (λ d. length d) q.contents ≡ map (λ d. length d) r.contents → (m : ℕ) → content_at c m ≡ content_at b m
unfolding content_at
starts_same b c r q e f l k m =
    let same : lengths c ≡ lengths b = sym (samples_tile c q f).content_lengths ∙ k ∙ (samples_tile b r e).content_lengths in
    let x = contents_end b r e in
    let y = contents_end c q f in
    let z : sum (lengths c) ≡ sum (lengths b) = ap sum same in
    let start : contents_at c ≡ contents_at b = omega arith in
    ap₂ ◌+◌ start (ap (λ ns. sum (take (m - 1) ns)) same)

module _ (b : List ℕ) (r : Recording) (accepted : first_layout.means b ≡ ok r) (s : ℕ) (some : 0 < s) (there : s ≤ sample_count r.layout) (new : List ℕ) (equal_length : length new ≡ length (content_of r s)) where
  abbrev after : List ℕ
  after = splice b (first_layout.content_at b s) new

  pub still_accepted : (bundle_verdict after ≡ ok tt) × (first_layout.means after ≡ ok (replaced r s new))
  still_accepted =
      let e = first_layout_sound.replacing b r s new accepted some there equal_length in ((means after e).0, e)

  pub starts_kept : (m : ℕ) → first_layout.content_at after m ≡ first_layout.content_at b m
  starts_kept m =
      let i = first_layout_sound.inside b r s accepted some there in
      starts_same b after r (replaced r s new) accepted (first_layout_sound.replacing b r s new accepted some there equal_length)
      (splice_length b (first_layout.content_at b s) new (omega arith)) (replaced_lengths r s new equal_length) m

  length_kept : (n : ℕ) → length (content_of (replaced r s new) n) ≡ length (content_of r n)
  length_kept n =
      sym (nth_number length (replaced r s new).contents n [])
      ∙ ap (λ ns. nth ns n 0) (replaced_lengths r s new equal_length)
      ∙ nth_number length r.contents n []

  placed_same : (a : Answer Span) → placed_by (first_layout.content_at after) a ≡ placed_by (first_layout.content_at b) a
  placed_same (refused m p) = refl
  placed_same (ok u) = ap (λ (k : ℕ). ok (record { start = k + u.start; size = u.size })) (starts_kept u.sample)

  others_place : (n : ℕ) → (n ≡ s → ⊥) → Unlisted r s n → (k : ℕ) → place_call first_layout after n k ≡ place_call first_layout b n k
  unfolding place_call
  others_place n other unlisted k =
      placed_same (unit_call first_layout after n k)
      ∙ ap (placed_by (first_layout.content_at b)) (unit_same b r accepted s some there new equal_length n other unlisted k)

  pub others_unit :
      (n : ℕ) → (n ≡ s → ⊥) → Unlisted r s n → (k : ℕ) →
      (unit_call first_layout after n k ≡ unit_call first_layout b n k) × (place_call first_layout after n k ≡ place_call first_layout b n k)
  others_unit n other unlisted k = (unit_same b r accepted s some there new equal_length n other unlisted k, others_place n other unlisted k)

  -- all its units, and where they stand
  parts_kept : (n : ℕ) → (n ≡ s → ⊥) → Unlisted r s n → parts_of (replaced r s new) n (first_layout.content_at after) ≡ parts_of r n (first_layout.content_at b)
  unfolding replaced
  parts_kept n other unlisted = by_count (sample_count r.layout) n
      (λ z. parts_number (replaced r s new) n _ z ∙ sym (parts_number r n _ z))
      (λ h l.
      let w = sample_kept r s new n other h l unlisted in
      by_verdict (judged r n)
      (λ m p e. parts_sample (replaced r s new) n h l _ (w.verdict ∙ e) ∙ sym (parts_sample r n h l _ e))
      (λ e.
      parts_good (replaced r s new) n h l _ (w.verdict ∙ e)
      ∙ ap ok (ap (parts_by (first_layout.content_at after)) (w.units e)
      ∙ parts_same (first_layout.content_at after) (first_layout.content_at b) (delivered r n) (λ u m. starts_kept u.sample))
      ∙ sym (parts_good r n h l _ e)))

  pub others_units : (n : ℕ) → (n ≡ s → ⊥) → Unlisted r s n → (room : ℕ) → parts_call first_layout after n room ≡ parts_call first_layout b n room
  others_units n other unlisted room =
      parts_means first_layout after n room still_accepted.1
      ∙ ap (within room) (parts_kept n other unlisted)
      ∙ sym (parts_means first_layout b n room accepted)

  -- what it delivers as a byte stream: units of the same lengths, joined to the same output, are the same
  unit_size : (u : Span) → length (written (replaced r s new) u) ≡ length (written r u)
  unfolding written
  unit_size u = simp (length-append, length-take, length-drop) (rw (length_kept u.sample))

  unit_bytes_lem : (u : Span) → written (replaced r s new) u ≡ written r u → span_bytes (replaced r s new) u ≡ span_bytes r u
  unfolding written
  unit_bytes_lem u e = append_cancel_left (bytes length_before u.size) _ _ e

  bytes_kept : (us : List Span) → output (replaced r s new) us ≡ output r us → bytes_of (replaced r s new) us ≡ bytes_of r us
  unfolding output each
  bytes_kept [] e = refl
  bytes_kept (u ∷ us) e =
      let a = written (replaced r s new) u in
      let c = written r u in
      let l = unit_size u in
      let front : a ≡ c = sym (take_at a _ (length c) l) ∙ ap (take (length c)) e ∙ take_at c _ (length c) refl in
      let back : output (replaced r s new) us ≡ output r us = sym (drop_at a _ (length c) l) ∙ ap (drop (length c)) e ∙ drop_at c _ (length c) refl in
      ap₂ ◌∷◌ (unit_bytes_lem u front) (bytes_kept us back)

  stream_kept : (n : ℕ) → (n ≡ s → ⊥) → Unlisted r s n → stream (replaced r s new) n ≡ stream r n
  stream_kept n other unlisted = by_count (sample_count r.layout) n
      (λ z. stream_number (replaced r s new) n (rw (layout_kept r s new) z) ∙ sym (stream_number r n z))
      (λ h l.
      let t : n ≤ sample_count (replaced r s new).layout = rw (layout_kept r s new) l in
      let w = sample_kept r s new n other h l unlisted in
      by_verdict (judged r n)
      (λ m p e. stream_sample (replaced r s new) n h t (w.verdict ∙ e) ∙ sym (stream_sample r n h l e))
      (λ e.
      let u = w.units e in
      stream_good (replaced r s new) n h t (w.verdict ∙ e)
      ∙ ap to_stream (ap (bytes_of (replaced r s new)) u ∙ bytes_kept (delivered r n) (ap (output (replaced r s new)) (sym u) ∙ w.bytes e))
      ∙ sym (stream_good r n h l e)))

  pub others_stream : (n : ℕ) → (n ≡ s → ⊥) → Unlisted r s n → (room : ℕ) → stream_call first_layout after n room ≡ stream_call first_layout b n room
  others_stream n other unlisted room =
      stream_means first_layout after n room still_accepted.1
      ∙ ap (within room) (stream_kept n other unlisted)
      ∙ sym (stream_means first_layout b n room accepted)

  -- which sample an extractor of another sample names, listed or not
  named_kept : (n : ℕ) → (n ≡ s → ⊥) → (p : ℕ) → named_in (replaced r s new) n p ≡ named_in r n p
  unfolding named_in
  named_kept n other p =
      rw (sample_other r s new n other, name_fault_other r s new n p other, named_other r s new n p other, layout_kept r s new)

  pub others_named : (n : ℕ) → (n ≡ s → ⊥) → (p : ℕ) → named_call first_layout after n p ≡ named_call first_layout b n p
  others_named n other p =
      named_means first_layout after n p still_accepted.1 ∙ named_kept n other p ∙ sym (named_means first_layout b n p accepted)

  -- what the bundle holds
  track_kept : (k : ℕ) → track_call first_layout after k ≡ track_call first_layout b k
  unfolding track_call
  track_kept k = rw (still_accepted.1, accepted, layout_kept r s new)
      (by_count (length r.layout.tracks) k
      (λ z. rw (number_bad (length r.layout.tracks) k z))
      (λ h l. rw (records_replaced b r s new accepted some there equal_length k h l)))

  sample_same : (n : ℕ) → sample_call first_layout after n ≡ sample_call first_layout b n
  unfolding sample_call
  sample_same n = rw (still_accepted.1, accepted, layout_kept r s new, starts_kept n, length_kept n)

  pub contents_kept :
      (counts_call first_layout after ≡ counts_call first_layout b)
      × ((k : ℕ) → track_call first_layout after k ≡ track_call first_layout b k)
      × ((i : ℕ) → reference_call first_layout after i ≡ reference_call first_layout b i)
      × ((n : ℕ) → sample_call first_layout after n ≡ sample_call first_layout b n)
  unfolding counts_call reference_call
  contents_kept = (
    rw (still_accepted.1, accepted, layout_kept r s new),
    track_kept,
    (λ i. rw (still_accepted.1, accepted, layout_kept r s new)),
    sample_same,
  )
