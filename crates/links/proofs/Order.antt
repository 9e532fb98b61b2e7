-- Where track numbers never fall, the samples of a track are neighbours, and signed steps from the base are steps in sample numbers.
-- Assumes nothing.
--
--   ordered_rise, bundle_rise  the samples of an accepted bundle are so
--   before_test, up_to_test    which samples stand in tracks before k, and up to k
--   samples_range              the samples of track k are those after `before`, up to `up_to`
-- In any layout:
--   base_rising                  where the track's times rise, the base is the last sample of the track at or before, by its number there
-- and where it is that:
--   base_none                    no base: no sample of the track is at or before
--   base_last                    the base is at or before, and no later sample of the track is
--   base_times, later_without    the same in times
-- Where besides times rise, as in every accepted bundle:
--   base_is                       the base is the last sample of the track at or before, by its number there
--   base_number                   the base by its number in the recording
--   named_by_scan, fault_by_scan  the sample named, and 23 and 24, by the last sample at or before
--   named_up, named_past          sample_offset 0 to 127: that many samples after the base, or none
--   named_down, named_short       sample_offset 128 to 255, which is less by 256: that many samples before the base, or none
--   named_steps                   the four together
use Prim.Native.Nat.{ℕ, ◌+◌, ◌-◌, ◌≤◌, ◌<◌}
use mathlib.Core.Path.{◌≡◌, sym, ◌∙◌}
use mathlib.Core.List.{List, [], map, Memᴰ}
use mathlib.Core.Bool.{true, false, ◌&&◌}
use native.Mathlib.Omega.{arith}
use borrow.Author.Tests.{le-leb, leb-true, leb-false, lt-ltb, le-ltb, ltb-true, ltb-false, eq-eqb, ne_eqb, eqb-true, eqb-false}
use lib.Dec.{leb, ltb, eqb}
use lib.ListN.{length, length-map}
use Rattle.words.specs.Tests.{◌<?◌, ◌≤?◌, ◌≡?◌, ◌when◌else◌}
use Rattle.words.specs.Refusals.{ok, ◌if◌, ◌or_else◌}
use Rattle.words.specs.RefusalNumbers.{no_sample_named}
use Rattle.words.specs.Lists.{nth, upto, last_that}
use Rattle.words.proofs.Tests.{by_bool, by_number}
use Rattle.words.proofs.Lists.{keep_nothing, upto_from, nth_mem}
use Rattle.words.proofs.Rows.{upto_length, nth_upto, nth_none, nth_beyond}
use Rattle.words.proofs.Kept.{keep_same}
use Rattle.bundles.specs.Recordings.{Layout, Recording, no_entry, sample_count, track_of, time_of, samples_in}
use Rattle.bundles.specs.Bundles.{meaning}
use Rattle.bundles.proofs.Order.{InOrder}
use Rattle.bundles.proofs.Promises.{Ordered, samples_ordered}
use Rattle.tables.proofs.Ranges.{keep_range}
use Rattle.links.specs.Links.{signed, stepped, link_fault, linked_track, at_or_before, base, sample_named, name_fault}
use Rattle.links.specs.Order.{TracksRise, TrackRises, TimesRise, before, up_to, base_sample, Base, Steps}
use Rattle.links.proofs.Words.{mem_nth, rising_nth, last_passes, last_later, last_count, last_down}
use Rattle.links.proofs.Halving.{last_found}
use Rattle.links.proofs.Links.{in_track, track_rise, search_without_track, searched, base_found, base_most, named_stepped}

pub ordered_rise : (y : Layout) → Ordered y → TimesRise y
ordered_rise y o = record {
  tracks = λ i j h l k. (rising_nth InOrder y.entries o.rise i j no_entry h l k).track;
  numbered = λ i h l. let x = o.exist (nth_mem y.entries i no_entry h l) in omega arith;
  times = λ k i j h l u e f. (rising_nth InOrder y.entries o.rise i j no_entry h l u).time (e ∙ sym f);
}

pub bundle_rise : (b : List ℕ) (r : Recording) → meaning b ≡ ok r → TimesRise r.layout
bundle_rise b r e = ordered_rise r.layout (samples_ordered b r e)

-- a number from a up to e is after one and not after the other
between : (x k m a e : ℕ) → (x <? k) ≡ (m ≤? a) → (x ≤? k) ≡ (m ≤? e) → (x ≡? k) ≡ ((a <? m) && (m ≤? e))
between x k m a e f g =
    by_bool (ltb x k)
    (λ q. let u = ltb-true x k q in let v : m ≤ a = leb-true m a (sym f ∙ q) in rw (ne_eqb x k (omega arith), le-ltb a m v))
    (λ q.
    let u = ltb-false x k q in
    let v : a < m = leb-false m a (sym f ∙ q) in
    by_bool (leb x k)
    (λ r. let w = leb-true x k r in rw (eq-eqb x k (omega arith), lt-ltb a m v, ← g, r))
    (λ r. let w = leb-false x k r in rw (ne_eqb x k (omega arith), lt-ltb a m v, ← g, r)))

module _ (y : Layout) (rise : TracksRise y) where
  no_later : (i j : ℕ) → 0 < i → i ≤ j → j ≤ sample_count y → track_of y i ≤ track_of y j
  no_later i j h l k = by_bool (eqb i j)
      (λ q. let e = eqb-true i j q in rw e (omega arith))
      (λ q. let e = eqb-false i j q in rise i j h (omega arith) k)

  pub before_test : (k m : ℕ) → 0 < m → m ≤ sample_count y → (track_of y m <? k) ≡ (m ≤? before y k)
  unfolding before
  before_test k = last_down (λ m. track_of y m <? k) (sample_count y)
      (λ i j h l u t. let a = no_later i j h l u in let b = ltb-true (track_of y j) k t in lt-ltb (track_of y i) k (omega arith))

  pub up_to_test : (k m : ℕ) → 0 < m → m ≤ sample_count y → (track_of y m ≤? k) ≡ (m ≤? up_to y k)
  unfolding up_to
  up_to_test k = last_down (λ m. track_of y m ≤? k) (sample_count y)
      (λ i j h l u t. let a = no_later i j h l u in let b = leb-true (track_of y j) k t in le-leb (track_of y i) k (omega arith))

  before_most : (k : ℕ) → before y k ≤ sample_count y
  unfolding before
  before_most k = last_count (λ m. track_of y m <? k) (sample_count y)

  up_to_most : (k : ℕ) → up_to y k ≤ sample_count y
  unfolding up_to
  up_to_most k = last_count (λ m. track_of y m ≤? k) (sample_count y)

  before_up_to : (k : ℕ) → before y k ≤ up_to y k
  before_up_to k =
      by_number (before y k)
      (λ z. omega arith)
      (λ j z.
      let n = before_most k in
      let t = before_test k (before y k) (omega arith) n ∙ le-leb (before y k) (before y k) (omega arith) in
      let u = ltb-true (track_of y (before y k)) k t in
      leb-true (before y k) (up_to y k) (sym (up_to_test k (before y k) (omega arith) n) ∙ le-leb (track_of y (before y k)) k (omega arith)))

  -- the samples of track k are those after `before`, up to `up_to`
  pub samples_range : (k : ℕ) → samples_in y k ≡ map (λ i. before y k + i) (upto (up_to y k - before y k))
  unfolding samples_in
  samples_range k =
      keep_same (λ m. track_of y m ≡? k) (λ m. (before y k <? m) && (m ≤? up_to y k)) (upto (sample_count y))
      (λ m h.
      let u = upto_from (sample_count y) m h in
      between (track_of y m) k m (before y k) (up_to y k) (before_test k m u.0 u.1) (up_to_test k m u.0 u.1))
      ∙ keep_range (before y k) (up_to y k) (sample_count y) (up_to_most k)

  range_length : (k : ℕ) → length (samples_in y k) ≡ up_to y k - before y k
  range_length k = rw (samples_range k) (length-map (upto (up_to y k - before y k)) (λ i. before y k + i) ∙ upto_length (up_to y k - before y k))

  -- the ith sample of track k, from 1
  sample_number : (k i : ℕ) → 0 < i → before y k + i ≤ up_to y k → nth (samples_in y k) i 0 ≡ before y k + i
  sample_number k i h l = rw (samples_range k) (nth_upto (λ j. before y k + j) (up_to y k - before y k) i 0 h (omega arith))

  sample_past : (k i : ℕ) → up_to y k < before y k + i → nth (samples_in y k) i 0 ≡ 0
  sample_past k i l = let a = range_length k in let b = before_up_to k in nth_beyond (samples_in y k) i 0 (omega arith)

-- the base in track k, by its number there
module _ (y : Layout) (n k : ℕ) where
  -- where the track's times rise, every sample before one that is at or before is so too
  module _ (some : k ≡ 0 → ⊥) (rises : TrackRises y k) where
    earlier_too : (i j : ℕ) → 0 < i → i < j → j ≤ length (samples_in y k) → at_or_before y (nth (samples_in y k) j 0) n ≡ true → at_or_before y (nth (samples_in y k) i 0) n ≡ true
    earlier_too i j h l g t =
        let p = in_track y n k _ (nth_mem (samples_in y k) i 0 h (omega arith)) in
        let q = in_track y n k _ (nth_mem (samples_in y k) j 0 (omega arith) g) in
        let r = rising_nth ◌<◌ (samples_in y k) (track_rise y n k) i j 0 h l g in
        let u = rises (nth (samples_in y k) i 0) (nth (samples_in y k) j 0) p.0 r q.1 p.2 q.2 in
        let v = leb-true (time_of y (nth (samples_in y k) j 0)) (time_of y n) t in
        le-leb (time_of y (nth (samples_in y k) i 0)) (time_of y n) (omega arith)

    pub base_rising : base y n k ≡ last_that (λ m. at_or_before y m n) (samples_in y k)
    base_rising = base_found y n k ∙ rw (searched y n some) (last_found (λ m. at_or_before y m n) (samples_in y k) 0 earlier_too)

  -- where it is the last sample of the track at or before
  module _ (is : base y n k ≡ last_that (λ m. at_or_before y m n) (samples_in y k)) where
    base_later : (i : ℕ) → base y n k < i → i ≤ length (samples_in y k) → at_or_before y (nth (samples_in y k) i 0) n ≡ false
    base_later i h l = last_later (λ m. at_or_before y m n) (samples_in y k) 0 i (rw is at h) l

    pub base_none : base y n k ≡ 0 → (m : ℕ) → Memᴰ m (samples_in y k) → at_or_before y m n ≡ false
    base_none e m h =
        let w = mem_nth (samples_in y k) m 0 h in
        rw w.2 at (base_later w.0 (omega arith) w.1.1)

    pub base_last : 0 < base y n k → Base y n k
    base_last h = record {
      there = nth_mem (samples_in y k) (base y n k) 0 h (base_most y n k);
      passes = rw is (last_passes (λ m. at_or_before y m n) (samples_in y k) 0 (rw is at h));
      last = λ m j u.
          let w = mem_nth (samples_in y k) m 0 j in
          by_bool (ltb (base y n k) w.0)
          (λ q. rw w.2 at (base_later w.0 (ltb-true _ _ q) w.1.1))
          (λ q.
          let v : w.0 ≤ base y n k = ltb-false _ _ q in
          let z = base_most y n k in
          let r : m ≤ base_sample y n k = by_bool (eqb w.0 (base y n k))
          (λ s. let c : w.0 ≡ base y n k = eqb-true _ _ s in let d : base_sample y n k ≡ m = rw c at w.2 in omega arith)
          (λ s. let c : (w.0 ≡ base y n k) → ⊥ = eqb-false _ _ s in let d : m < base_sample y n k = rw w.2 at (rising_nth ◌<◌ (samples_in y k) (track_rise y n k) w.0 (base y n k) 0 w.1.0 (omega arith) z) in omega arith) in
          absurd (omega arith));
    }

    -- the same in times
    pub base_times : 0 < base y n k → (time_of y (base_sample y n k) ≤ time_of y n) × ((m : ℕ) → Memᴰ m (samples_in y k) → base_sample y n k < m → time_of y n < time_of y m)
    base_times h = let w = base_last h in (leb-true _ _ w.passes, λ m j l. leb-false _ _ (w.last m j l))

    pub later_without : base y n k ≡ 0 → (m : ℕ) → Memᴰ m (samples_in y k) → time_of y n < time_of y m
    later_without e m j = leb-false _ _ (base_none e m j)

-- where besides times rise: the base, and signed steps from it
module _ (y : Layout) (rise : TimesRise y) where
  -- there is no track 0
  no_samples : samples_in y 0 ≡ []
  unfolding samples_in
  no_samples = keep_nothing (λ m. track_of y m ≡? 0) (upto (sample_count y)) (λ m h.
      let u = upto_from (sample_count y) m h in
      let s = rise.numbered m u.0 u.1 in
      ne_eqb (track_of y m) 0 (λ z. absurd (omega arith)))

  module _ (n k : ℕ) where
    pub base_is : base y n k ≡ last_that (λ m. at_or_before y m n) (samples_in y k)
    unfolding last_that
    base_is = by_bool (k ≡? 0)
        (λ q. let z : k ≡ 0 = eqb-true k 0 q in base_found y n k ∙ rw (search_without_track y n z, z, no_samples))
        (λ q. base_rising y n k (eqb-false k 0 q) (rise.times k))

    -- by its number in the recording
    base_fits : before y k + base y n k ≤ up_to y k
    base_fits = let a = base_most y n k in let b = range_length y rise.tracks k in let c = before_up_to y rise.tracks k in omega arith

    pub base_number : 0 < base y n k → base_sample y n k ≡ before y k + base y n k
    base_number h = sample_number y rise.tracks k (base y n k) h base_fits

  -- by a scan of the linked track
  module _ (n index offset : ℕ) where
    abbrev linked : List ℕ
    linked = samples_in y (linked_track y n index)

    abbrev last : ℕ
    last = last_that (λ m. at_or_before y m n) linked

    abbrev scanned : ℕ
    scanned = 0 when last ≡? 0 else nth linked (stepped last (signed offset)) 0

    pub named_by_scan : sample_named y n index offset ≡ scanned
    unfolding sample_named
    named_by_scan = rw (base_is n (linked_track y n index))

    pub fault_by_scan : name_fault y n index offset ≡ (link_fault y n index or_else no_sample_named if scanned ≡? 0)
    unfolding name_fault
    fault_by_scan = rw named_by_scan

  -- signed steps
  module _ (n index offset : ℕ) (found : 0 < base y n (linked_track y n index)) where
    abbrev k : ℕ
    k = linked_track y n index

    abbrev b : ℕ
    b = base y n k

    steps : sample_named y n index offset ≡ nth (samples_in y k) (stepped b (signed offset)) 0
    steps = named_stepped y n index offset (λ z. absurd (omega arith))

    pub named_up : offset < 128 → base_sample y n k + offset ≤ up_to y k → sample_named y n index offset ≡ base_sample y n k + offset
    named_up h l =
        let e = base_number n k found in
        steps ∙ rw (lt-ltb offset 128 h) (sample_number y rise.tracks k (b + offset) (omega arith) (omega arith)) ∙ (let z : before y k + (b + offset) ≡ base_sample y n k + offset = omega arith in z)

    pub named_past : offset < 128 → up_to y k < base_sample y n k + offset → sample_named y n index offset ≡ 0
    named_past h l = let e = base_number n k found in steps ∙ rw (lt-ltb offset 128 h) (sample_past y rise.tracks k (b + offset) (omega arith))

    pub named_down : 128 ≤ offset → offset ≤ 256 → before y k + (256 - offset) < base_sample y n k → sample_named y n index offset ≡ base_sample y n k - (256 - offset)
    named_down h g l =
        let e = base_number n k found in
        let f = base_fits n k in
        steps ∙ rw (le-ltb offset 128 h, lt-ltb (256 - offset) b (omega arith)) (sample_number y rise.tracks k (b - (256 - offset)) (omega arith) (omega arith)) ∙ (let z : before y k + (b - (256 - offset)) ≡ base_sample y n k - (256 - offset) = omega arith in z)

    pub named_short : 128 ≤ offset → offset ≤ 256 → base_sample y n k ≤ before y k + (256 - offset) → sample_named y n index offset ≡ 0
    named_short h g l =
        let e = base_number n k found in
        steps ∙ rw (le-ltb offset 128 h, le-ltb (256 - offset) b (omega arith)) (nth_none (samples_in y k) 0)

    pub named_steps : Steps y n index offset
    named_steps = record { up = named_up; past = named_past; down = named_down; short = named_short }
