-- Which sample is named, in any layout, whether its times rise or not. Assumes nothing.
--
--   link_none, link_good            no 23 exactly if track_ref_index is from 1 to the last
--   Link, linked_reference          then the linked track is that of a reference of the own track
--   in_track, track_in_lem          the samples of a track: those that there are, of that track
--   track_rise                      they rise
--   track_fewer                     fewer than there are where one is of another track
--   search_without_track, searched  the search for the base, without a track and in one
--   search_rounds                   its rounds are at most the binary digits of how many samples the track has
--   base_found, base_most           the base is what it finds, and one of the track's samples, or 0
--   named_baseless, named_stepped   the sample named: without a base none, else sample_offset steps from it
--   linked_none                     with 23 there is no linked track, and no sample is named
--   named_by_search                 the sample named, by what the search finds
--   named_there                     a sample that is named is there, in the linked track
--   name_none, name_good            no 23, no 24, both ways
--   name_refusal                    a refusal is 23 or 24
use Prim.Native.Nat.{ℕ, ◌≤◌, ◌<◌}
use mathlib.Core.Path.{◌≡◌, refl, ap}
use mathlib.Core.List.{Memᴰ}
use native.Mathlib.Omega.{arith}
use native.Mathlib.Nat.{pos_of_ne-zero}
use borrow.Author.Tests.{ltb-true, ltb-false, eq-eqb, ne_eqb, eqb-true, eqb-false}
use lib.Dec.{ltb, eqb}
use lib.ListN.{length}
use Rattle.words.specs.Tests.{◌≡?◌, ◌when◌else◌, out_of}
use Rattle.words.specs.RefusalNumbers.{bad_track_ref_index, no_sample_named, name_refusals}
use Rattle.words.specs.Lists.{some, nth, upto}
use Rattle.words.proofs.Tests.{by_bool, count_within, within_count}
use Rattle.words.proofs.Refusals.{if_none, or_else_none, NoneOr, none_or_if, none_or_or_else}
use Rattle.words.proofs.Lists.{keep_mem, keep_from, upto_mem, upto_from, nth_mem, nth_found, has_from, Rising, rising_keep, rising_upto}
use Rattle.words.proofs.Rows.{upto_length, nth_none, nth_beyond}
use Rattle.words.proofs.Kept.{keep_fewer}
use Rattle.bundles.specs.Recordings.{Layout, Reference, no_reference, sample_count, track_of, references_from, samples_in}
use Rattle.links.specs.Halving.{ended, halving, binary_digits}
use Rattle.links.specs.Links.{signed, stepped, link_fault, linked_track, at_or_before, base_search, base, sample_named, name_fault}
use Rattle.links.proofs.Halving.{ends, rounds_at_most}

module _ (y : Layout) (n : ℕ) where
  -- 23
  pub link_none : (index : ℕ) → link_fault y n index ≡ 0 → (0 < index) × (index ≤ length (references_from y (track_of y n)))
  unfolding link_fault
  link_none index e = count_within (length (references_from y (track_of y n))) index (if_none 22 _ e)

  pub link_good : (index : ℕ) → 0 < index → index ≤ length (references_from y (track_of y n)) → link_fault y n index ≡ 0
  unfolding link_fault
  link_good index h l = rw (within_count (length (references_from y (track_of y n))) index h l)

  pub record Link (index : ℕ) : Type 0 where
    pub reference : Reference
    pub there : Memᴰ reference y.references
    pub from : reference.from ≡ track_of y n
    pub to : reference.to ≡ linked_track y n index

  pub linked_reference : (index : ℕ) → link_fault y n index ≡ 0 → Link index
  unfolding references_from linked_track
  linked_reference index e =
      let a = link_none index e in
      let m = nth_mem (references_from y (track_of y n)) index no_reference a.0 a.1 in
      let k = keep_from (λ f. f.from ≡? track_of y n) y.references m in
      record { reference = nth (references_from y (track_of y n)) index no_reference; there = k.0; from = eqb-true _ _ k.1; to = refl }

  linked_default : (index : ℕ) → nth (references_from y (track_of y n)) index no_reference ≡ no_reference → linked_track y n index ≡ 0
  unfolding linked_track
  linked_default index e = ap (λ (f : Reference). f.to) e

  -- the samples of a track
  pub in_track : (k m : ℕ) → Memᴰ m (samples_in y k) → (0 < m) × (m ≤ sample_count y) × (track_of y m ≡ k)
  unfolding samples_in
  in_track k m h =
      let a = keep_from (λ i. track_of y i ≡? k) (upto (sample_count y)) h in
      let u = upto_from (sample_count y) m a.0 in
      (u.0, u.1, eqb-true _ _ a.1)

  pub track_in_lem : (k m : ℕ) → 0 < m → m ≤ sample_count y → track_of y m ≡ k → Memᴰ m (samples_in y k)
  unfolding samples_in
  track_in_lem k m h l e = keep_mem (λ i. track_of y i ≡? k) (upto (sample_count y)) (upto_mem (sample_count y) m h l) (eq-eqb _ _ e)

  pub track_rise : (k : ℕ) → Rising ◌<◌ (samples_in y k)
  unfolding samples_in
  track_rise k = rising_keep ◌<◌ (λ i. track_of y i ≡? k) (upto (sample_count y)) (rising_upto (sample_count y))

  -- a sample of another track is none of them
  pub track_fewer : (k : ℕ) → 0 < n → n ≤ sample_count y → (track_of y n ≡ k → ⊥) → length (samples_in y k) < sample_count y
  unfolding samples_in
  track_fewer k h l other =
      let fewer = keep_fewer (λ i. track_of y i ≡? k) n (upto (sample_count y)) (upto_mem (sample_count y) n h l) (ne_eqb _ _ other) in
      let count = upto_length (sample_count y) in
      omega arith

  -- the search for the base
  pub search_without_track : {k : ℕ} → k ≡ 0 → base_search y n k ≡ ended 0
  unfolding base_search
  search_without_track z = rw z

  pub searched : {k : ℕ} → (k ≡ 0 → ⊥) → base_search y n k ≡ halving (λ i. at_or_before y (nth (samples_in y k) i 0) n) 0 (length (samples_in y k))
  unfolding base_search
  searched {k} h = rw (ne_eqb k 0 h)

  pub search_rounds : (k : ℕ) → (base_search y n k).rounds ≤ binary_digits (length (samples_in y k))
  search_rounds k = by_bool (eqb k 0)
      (λ q. rw (search_without_track (eqb-true k 0 q)) (omega arith))
      (λ q. rw (searched (eqb-false k 0 q)) (rounds_at_most (λ i. at_or_before y (nth (samples_in y k) i 0) n) (length (samples_in y k))))

  pub base_found : (k : ℕ) → base y n k ≡ (base_search y n k).found
  unfolding base
  base_found k = refl

  pub base_most : (k : ℕ) → base y n k ≤ length (samples_in y k)
  base_most k = rw (base_found k) (by_bool (eqb k 0)
      (λ q. rw (search_without_track (eqb-true k 0 q)) (omega arith))
      (λ q. rw (searched (eqb-false k 0 q)) (ends _ (length (samples_in y k))).most))

  -- the sample named, by the base
  pub named_baseless : (index offset : ℕ) → base y n (linked_track y n index) ≡ 0 → sample_named y n index offset ≡ 0
  unfolding sample_named
  named_baseless index offset e = rw e

  pub named_stepped : (index offset : ℕ) → let k = linked_track y n index in (base y n k ≡ 0 → ⊥) → sample_named y n index offset ≡ nth (samples_in y k) (stepped (base y n k) (signed offset)) 0
  unfolding sample_named
  named_stepped index offset h = rw (ne_eqb (base y n (linked_track y n index)) 0 h)

  -- no linked track
  pub linked_none : (index offset : ℕ) → (link_fault y n index ≡ 0 → ⊥) → (linked_track y n index ≡ 0) × (sample_named y n index offset ≡ 0)
  linked_none index offset h =
      let t : linked_track y n index ≡ 0 = by_bool (eqb index 0)
      (λ q. let z = eqb-true index 0 q in linked_default index (rw z (nth_none (references_from y (track_of y n)) no_reference)))
      (λ q. by_bool (ltb (length (references_from y (track_of y n))) index)
      (λ r. linked_default index (nth_beyond (references_from y (track_of y n)) index no_reference (ltb-true _ _ r)))
      (λ r. absurd (h (link_good index (pos_of_ne-zero (eqb-false _ _ q)) (ltb-false _ _ r))))) in
      (t, named_baseless index offset (rw (base_found (linked_track y n index), search_without_track t)))

  -- the sample named
  pub named_by_search : (index offset : ℕ) → let k = linked_track y n index in let b = (base_search y n k).found in sample_named y n index offset ≡ (0 when b ≡? 0 else nth (samples_in y k) (stepped b (signed offset)) 0)
  unfolding sample_named
  named_by_search index offset = rw (← base_found (linked_track y n index))

  pub named_there : (index offset : ℕ) → 0 < sample_named y n index offset → Memᴰ (sample_named y n index offset) (samples_in y (linked_track y n index))
  unfolding sample_named
  named_there index offset h =
      by_bool (base y n (linked_track y n index) ≡? 0)
      (λ q. let z : 0 < 0 = rw q at h in absurd (omega arith))
      (λ q. rw q (nth_found (samples_in y (linked_track y n index)) (stepped (base y n (linked_track y n index)) (signed offset)) _ refl (λ z. let w : 0 < 0 = rw (q, z) at h in absurd (omega arith))))

  pub name_none : (index offset : ℕ) → name_fault y n index offset ≡ 0 → (link_fault y n index ≡ 0) × (0 < sample_named y n index offset)
  unfolding name_fault
  name_none index offset e =
      let a = or_else_none (link_fault y n index) _ e in
      (a.0, pos_of_ne-zero (eqb-false _ _ (if_none 23 _ a.1)))

  pub name_good : (index offset : ℕ) → 0 < sample_named y n index offset → name_fault y n index offset ≡ 0
  unfolding name_fault
  name_good index offset h =
      let l : link_fault y n index ≡ 0 = by_bool (eqb (link_fault y n index) 0)
      (λ q. eqb-true _ _ q)
      (λ q. let z = (linked_none index offset (eqb-false _ _ q)).1 in absurd (omega arith)) in
      rw (l, ne_eqb (sample_named y n index offset) 0 (λ z. absurd (omega arith)))

  pub name_refusal : (index offset : ℕ) → NoneOr name_refusals (name_fault y n index offset)
  unfolding name_fault link_fault some
  name_refusal index offset =
      none_or_or_else name_refusals _ _
      (none_or_if name_refusals bad_track_ref_index (out_of (length (references_from y (track_of y n))) index) (has_from _ _ refl))
      (none_or_if name_refusals no_sample_named (sample_named y n index offset ≡? 0) (has_from _ _ refl))
