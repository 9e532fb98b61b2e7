-- What the four sections of an accepted bundle say, taken apart test by test. Assumes nothing.
--
--   Count, count_good                  a count without 2 and 3
--   TrackGood, track_good              a track entry without a refusal
--   exists                             a track that is none but exists
--   ReferenceGood, reference_good      a reference without a refusal
--   EntryGood, entry_good, order_good  a sample's entry without a refusal
--   entries_inside                     entries without a refusal lie in the bundle
--   EndGood, end_good                  section four without a refusal
--   Tracks, References, Samples        the sections one to three; the place after each lies in the bundle
--   Accepted, accepted                 a bundle without a refusal, section by section
use Prim.Native.Nat.{ℕ, ◌+◌, ◌-◌, ◌*◌, ◌≤◌, ◌<◌}
use mathlib.Core.Path.{◌≡◌, refl, sym, ◌∙◌}
use mathlib.Core.Bool.{Bool, true, false, ◌&&◌, not}
use mathlib.Core.List.{List, Memᴰ}
use native.Mathlib.Omega.{arith}
use borrow.Author.Tests.{ltb-false, leb-false, eqb-true, eqb-false, not-false, eq-eqb, ne_eqb}
use lib.ListN.{length, length-map}
use Rattle.words.specs.Tests.{◌<?◌, ◌≡?◌, pick}
use Rattle.words.specs.RefusalNumbers.{count_out_of_limits, bad_reference, bad_track_or_time, bad_byte_count}
use Rattle.words.specs.Refusals.{◌if◌, ok, ◌at_place◌}
use Rattle.words.specs.Lists.{sum}
use Rattle.words.specs.Bytes.{big}
use Rattle.words.proofs.Tests.{true_false, by_number, count_within}
use Rattle.words.proofs.Lists.{upto_mem}
use Rattle.words.proofs.Rows.{upto_length}
use Rattle.words.proofs.Refusals.{if_none, or_else_none, at_ok, and_ok, first_ok}
use Rattle.words.proofs.Walks.{skip_stride}
use Rattle.bundles.specs.Limits.{bundle_most, track_least, track_most, reference_most, sample_most, cut, count_fault}
use Rattle.bundles.specs.Fields.{track_count_size, track_head_size, reference_count_size, reference_size, sample_count_size, sample_entry_size, byte_count_size}
use Rattle.bundles.specs.Recordings.{Entry}
use Rattle.bundles.specs.Tracks.{track_count, tracks_at, record_length, track_end, kind_at, record_at, record_fault_as, track_fault, track_places, tracks_verdict, tracks, track_on, references_at}
use Rattle.bundles.specs.References.{reference_count, from, to, no_such_track, length_size_on, reference_fault, reference_places, references_verdict, references, reference_on, samples_at}
use Rattle.bundles.specs.Samples.{entry_count, entries_at, entry_at, track, length_at, order_fault, entry_fault, entry_numbers, samples_verdict, sample_entries, entry_on, lengths, byte_count_at}
use Rattle.bundles.specs.Bundles.{byte_count, byte_count_fault, bytes_verdict, length_verdict, bundle_verdict}
use Rattle.words.proofs.Entries.{walk_keeps_end, entries_length}

module _ (b : List ℕ) where
  pub record Count (p n least most : ℕ) : Type 0 where
    pub inside : p + n ≤ length b
    pub some : least ≤ big b p n
    pub few : big b p n ≤ most

  pub count_good : (p n least most : ℕ) → count_fault b p n least most ≡ 0 → Count p n least most
  unfolding count_fault
  count_good p n least most e =
      let a = or_else_none (cut b p n) _ e in
      let c = or_else_none (count_out_of_limits if big b p n <? least) _ a.1 in
      record {
        inside = ltb-false _ _ (if_none _ _ a.0);
        some = ltb-false _ _ (if_none _ _ c.0);
        few = ltb-false _ _ (if_none _ _ c.1);
      }

  -- section one
  pub record TrackGood (p : ℕ) : Type 0 where
    pub head : p + track_head_size ≤ length b
    pub inside : track_end b p ≤ length b
    pub whole : record_fault_as (kind_at b p) (record_at b p) ≡ 0

  pub track_good : (p : ℕ) → track_fault b p ≡ 0 → TrackGood p
  unfolding track_fault
  track_good p e =
      let a = or_else_none (cut b p track_head_size) _ e in
      let c = or_else_none (cut b (p + track_head_size) (record_length b p)) _ a.1 in
      record { head = ltb-false _ _ (if_none _ _ a.0); inside = ltb-false _ _ (if_none _ _ c.0); whole = c.1 }

  pub track_end_grows : (p : ℕ) → p ≤ track_end b p
  track_end_grows p = omega arith

  pub record Tracks : Type 0 where
    pub count : Count 0 track_count_size track_least track_most
    pub each : {p : ℕ} → Memᴰ p (track_places b) → track_fault b p ≡ 0
    pub inside : references_at b ≤ length b

  pub tracks_good : tracks_verdict b ≡ ok tt → Tracks
  unfolding tracks_verdict references_at
  tracks_good e =
      let a = and_ok (count_fault b 0 track_count_size track_least track_most at_place 0) _ e in
      let c = count_good 0 track_count_size track_least track_most (at_ok _ _ a.0) in
      record {
        count = c;
        each = λ m. at_ok _ _ (first_ok (λ p. track_fault b p at_place p) (track_places b) a.1 m);
        inside = walk_keeps_end (λ p. p ≤ length b) (track_end b) (track_fault b) (λ p h f. (track_good p f).inside) (track_count b) (tracks_at b) c.inside a.1;
      }

  pub track_count_lem : length (tracks b) ≡ track_count b
  unfolding tracks
  track_count_lem = length-map (track_places b) (track_on b) ∙ entries_length (track_end b) (track_count b) (tracks_at b)

  -- section two
  pub exists : (k : ℕ) → no_such_track b k ≡ false → (0 < k) × (k ≤ track_count b)
  unfolding no_such_track
  exists k e = count_within (track_count b) k e

  pub record ReferenceGood (p : ℕ) : Type 0 where
    pub inside : p + reference_size ≤ length b
    pub from_there : (0 < from b p) × (from b p ≤ track_count b)
    pub to_there : (0 < to b p) × (to b p ≤ track_count b)
    pub apart : from b p ≡ to b p → ⊥
    pub same : length_size_on b (from b p) ≡ length_size_on b (to b p)

  pub reference_good : (p : ℕ) → reference_fault b p ≡ 0 → ReferenceGood p
  unfolding reference_fault
  reference_good p e =
      let a = or_else_none (cut b p reference_size) _ e in
      let c = or_else_none (bad_reference if no_such_track b (from b p)) _ a.1 in
      let d = or_else_none (bad_reference if no_such_track b (to b p)) _ c.1 in
      let f = or_else_none (bad_reference if from b p ≡? to b p) _ d.1 in
      record {
        inside = ltb-false _ _ (if_none _ _ a.0);
        from_there = exists _ (if_none _ _ c.0);
        to_there = exists _ (if_none _ _ d.0);
        apart = eqb-false _ _ (if_none _ _ f.0);
        same = eqb-true _ _ (not-false _ (if_none _ _ f.1));
      }

  pub record References : Type 0 where
    pub count : Count (references_at b) reference_count_size 0 reference_most
    pub each : {p : ℕ} → Memᴰ p (reference_places b) → reference_fault b p ≡ 0
    pub inside : samples_at b ≤ length b

  pub references_good : references_verdict b ≡ ok tt → References
  unfolding references_verdict samples_at
  references_good e =
      let a = and_ok (count_fault b (references_at b) reference_count_size 0 reference_most at_place references_at b) _ e in
      let c = count_good (references_at b) reference_count_size 0 reference_most (at_ok _ _ a.0) in
      let w = walk_keeps_end (λ p. p ≤ length b) (λ p. p + reference_size) (reference_fault b) (λ p h f. (reference_good p f).inside) (reference_count b) (references_at b + reference_count_size) c.inside a.1 in
      record {
        count = c;
        each = λ m. at_ok _ _ (first_ok (λ p. reference_fault b p at_place p) (reference_places b) a.1 m);
        inside = rw (skip_stride reference_size (reference_count b) (references_at b + reference_count_size)) at w;
      }

  pub reference_count_lem : length (references b) ≡ reference_count b
  unfolding references
  reference_count_lem = length-map (reference_places b) (reference_on b) ∙ entries_length (λ p. p + reference_size) (reference_count b) (references_at b + reference_count_size)

  -- section three
  and_not : (s t : Bool) → (s && t) ≡ false → s ≡ true → t ≡ false
  and_not true t e h = e
  and_not false t e h = true_false false h refl

  pub order_good : (e f : Entry) → order_fault e f ≡ 0 → (e.track ≤ f.track) × (e.track ≡ f.track → e.time < f.time)
  unfolding order_fault
  order_good e f h =
      let a = or_else_none (bad_track_or_time if f.track <? e.track) _ h in
      (ltb-false _ _ (if_none _ _ a.0), λ q. leb-false _ _ (and_not _ _ (if_none _ _ a.1) (eq-eqb _ _ (sym q))))

  pub record EntryGood (n : ℕ) : Type 0 where
    pub inside : entry_at b n + sample_entry_size ≤ length b
    pub there : (0 < track b (entry_at b n)) × (track b (entry_at b n) ≤ track_count b)
    pub order : 1 < n → order_fault (entry_on b (entry_at b (n - 1))) (entry_on b (entry_at b n)) ≡ 0

  later : (t : Bool) (m : ℕ) → pick t 0 m ≡ 0 → t ≡ false → m ≡ 0
  later true m e h = true_false true refl h
  later false m e h = e

  pub entry_good : (n : ℕ) → entry_fault b n ≡ 0 → EntryGood n
  unfolding entry_fault
  entry_good n e =
      let a = or_else_none (cut b (entry_at b n) sample_entry_size) _ e in
      let c = or_else_none (bad_track_or_time if no_such_track b (track b (entry_at b n))) _ a.1 in
      record {
        inside = ltb-false _ _ (if_none _ _ a.0);
        there = exists _ (if_none _ _ c.0);
        order = λ h. later (n ≡? 1) _ c.1 (ne_eqb n 1 (λ z. omega arith));
      }

  pub record Samples : Type 0 where
    pub count : Count (samples_at b) sample_count_size 0 sample_most
    pub each : (n : ℕ) → 0 < n → n ≤ entry_count b → entry_fault b n ≡ 0
    pub inside : byte_count_at b ≤ length b

  -- the last entry, if there is one, ends in the bundle
  pub entries_inside : entries_at b ≤ length b → (n : ℕ) → (0 < n → entry_fault b n ≡ 0) → entries_at b + n * sample_entry_size ≤ length b
  entries_inside h n e = by_number n
      (λ z. omega arith)
      (λ k z. let g = (entry_good n (e (omega arith))).inside in omega arith)

  pub samples_good : samples_verdict b ≡ ok tt → Samples
  unfolding samples_verdict byte_count_at
  samples_good e =
      let a = and_ok (count_fault b (samples_at b) sample_count_size 0 sample_most at_place samples_at b) _ e in
      let c = count_good (samples_at b) sample_count_size 0 sample_most (at_ok _ _ a.0) in
      let good : (n : ℕ) → 0 < n → n ≤ entry_count b → entry_fault b n ≡ 0 =
      λ n h l. at_ok _ _ (first_ok (λ n. entry_fault b n at_place entry_at b n) (entry_numbers b) a.1 (upto_mem (entry_count b) n h l)) in
      record { count = c; each = good; inside = entries_inside c.inside (entry_count b) (λ h. good (entry_count b) h (omega arith)) }

  pub sample_count_lem : length (sample_entries b) ≡ entry_count b
  unfolding sample_entries
  sample_count_lem = length-map (entry_numbers b) (λ n. entry_on b (entry_at b n)) ∙ upto_length (entry_count b)

  pub lengths_count : length (lengths b) ≡ entry_count b
  unfolding lengths
  lengths_count = length-map (entry_numbers b) (λ n. length_at b (entry_at b n)) ∙ upto_length (entry_count b)

  -- section four
  pub record EndGood (p total : ℕ) : Type 0 where
    pub count : byte_count b p ≡ total
    pub end : p + byte_count_size + total ≡ length b

  pub end_good : (p total : ℕ) → byte_count_fault b p total ≡ 0 → EndGood p total
  unfolding byte_count_fault
  end_good p total e =
      let a = or_else_none (cut b p byte_count_size) _ e in
      let c = or_else_none (bad_byte_count if not (byte_count b p ≡? total)) _ a.1 in
      let d = or_else_none (cut b (p + byte_count_size) (byte_count b p)) _ c.1 in
      let s : byte_count b p ≡ total = eqb-true _ _ (not-false _ (if_none _ _ c.0)) in
      let l : p + byte_count_size + byte_count b p ≤ length b = ltb-false _ _ (if_none _ _ d.0) in
      let u : length b ≤ p + byte_count_size + byte_count b p = ltb-false _ _ (if_none _ _ d.1) in
      record { count = s; end = omega arith }

  -- the whole
  pub record Accepted : Type 0 where
    pub short : length b ≤ bundle_most
    pub tracks : Tracks
    pub references : References
    pub samples : Samples
    pub bytes : EndGood (byte_count_at b) (sum (lengths b))

  pub accepted : bundle_verdict b ≡ ok tt → Accepted
  unfolding bundle_verdict bytes_verdict
  accepted e =
      let e1 = and_ok (length_verdict b) _ e in
      let e2 = and_ok (tracks_verdict b) _ e1.1 in
      let e3 = and_ok (references_verdict b) _ e2.1 in
      let e4 = and_ok (samples_verdict b) _ e3.1 in
      record {
        short = ltb-false _ _ (if_none 0 _ (at_ok _ 0 e1.0));
        tracks = tracks_good e2.0;
        references = references_good e3.0;
        samples = samples_good e4.0;
        bytes = end_good (byte_count_at b) (sum (lengths b)) (at_ok _ (byte_count_at b) e4.1);
      }
