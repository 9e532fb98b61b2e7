-- The code of this crate, case by case, in the layout that any table says: for its proofs alone. It follows the definitions wherever
-- the base is, also in a table whose times do not rise. Assumes nothing.
--
--   range_most                                                          the samples of a track end within the limit
--   range_at, range_past                                                the sample of a number within a track, and of one that none has
--   Searching                                                           the search after some rounds
--   searching_begun, searching_after, searching_before, searching_done  begun; one round more, by whether the middle passes; done
--   base_searched                                                       the search for the base, in the table's times
--   base_in_range                                                       the base is at most how many samples the range of the track has
--   base_track                                                          where there is a base there is a track
--   steps_ahead, steps_back                                             signed steps from the base
--   link_zero, link_past                                                23
--   linked_by                                                           the linked track, by the own one
--   named_no_base, named_at                                             the sample named, by the base
--   name_link, name_found                                               the answer, by its parts
use Rattle.std.specs.Prelude.{Err, ok_or}
use Prim.Native.Nat.{ℕ, ◌+◌, ◌-◌, ◌≤◌, ◌<◌}
use mathlib.Core.Path.{◌≡◌, refl, ap, ◌∙◌}
use mathlib.Core.Bool.{Bool, true, false}
use mathlib.Core.List.{List}
use native.Mathlib.Omega.{arith}
use native.Mathlib.Nat.{pos_of_ne-zero}
use borrow.Author.Tests.{lt-ltb, le-ltb, ltb-true, ltb-false, leb-true, eq-eqb, ne_eqb, eqb-true, eqb-false}
use lib.Dec.{ltb, leb, eqb, eqb-suc-zero}
use lib.ListN.{length, length-map}
use Rattle.words.specs.Tests.{◌≤?◌}
use Rattle.words.specs.RefusalNumbers.{bad_track_ref_index}
use Rattle.words.specs.Lists.{nth, upto}
use Rattle.words.proofs.Tests.{by_bool, by_number}
use Rattle.words.proofs.Rows.{upto_length, nth_upto, nth_past}
use Rattle.numbers.proofs.Faults.{fault_some}
use Rattle.numbers.specs.declared.refusals.Fault.TheVariants as fault
use Rattle.numbers.specs.Faults.{number_of_fault, numbered}
use Rattle.numbers.specs.declared.refusals.Fault.{Fault}
use Rattle.bundles.specs.Limits.{sample_most}
use Rattle.bundles.specs.Recordings.{Layout, no_reference, track_of, time_of, references_from, samples_in}
use Rattle.tables.specs.Tables.{at_most, cell, counts_row, samples_column, sample_total, track_total, layout_in, range_in}
use Rattle.tables.proofs.Ranges.{after_most, range_samples}
use Rattle.links.specs.Halving.{middle, halving}
use Rattle.links.specs.Links.{link_fault, linked_track, base_search, base, signed, stepped, sample_named, name_fault}
use Rattle.links.specs.Named.{sample_if_any, naming}
use Rattle.links.proofs.Halving.{middle_among, none_left, those_after, those_before, halving_same}
use Rattle.links.proofs.Links.{search_without_track, searched, base_found, base_most, named_baseless, named_stepped}

-- the samples of a track
total_below : (most n : ℕ) → at_most most n ≤ most
total_below most n = by_bool (leb n most) (λ q. rw q (leb-true n most q)) (λ q. rw q (omega arith))

module _ (t : List ℕ) (k : ℕ) where
  pub range_most : (range_in t k).after ≤ sample_most
  unfolding range_in
  range_most =
      let a = after_most t k (track_total t) in
      let b : sample_total t ≤ sample_most = total_below sample_most (cell t counts_row samples_column) in
      by_bool (eqb k 0)
      (λ q. rw q (omega arith))
      (λ q. rw q (by_bool (ltb (track_total t) k) (λ r. rw r (omega arith)) (λ r. rw r (omega arith))))

module _ (t : List ℕ) (k : ℕ) (some : 0 < k) where
  pub range_at : (j : ℕ) → 0 < j → j ≤ (range_in t k).after - (range_in t k).before → nth (samples_in (layout_in t) k) j 0 ≡ (range_in t k).before + j
  range_at j h l = rw (range_samples t k some) (nth_upto (λ i. (range_in t k).before + i) ((range_in t k).after - (range_in t k).before) j 0 h l)

  pub range_past : (j : ℕ) → (range_in t k).after - (range_in t k).before < j → nth (samples_in (layout_in t) k) j 0 ≡ 0
  range_past j h = rw (range_samples t k some) (nth_past (λ i. (range_in t k).before + i) ((range_in t k).after - (range_in t k).before) j 0 h)

-- the search after some rounds: the numbers left, and what was counted
module _ (passes : ℕ → Bool) (n : ℕ) where
  pub record Searching (low high rounds : ℕ) : Type 0 where
    pub most : high ≤ n
    pub counted : rounds + (high - low) ≤ n
    pub found : (halving passes low high).found ≡ (halving passes 0 n).found
    pub rounds_left : rounds + (halving passes low high).rounds ≡ (halving passes 0 n).rounds

  pub searching_begun : {size : ℕ} → size ≡ n → Searching 0 size 0
  searching_begun e = rw e (record { most = omega arith; counted = omega arith; found = refl; rounds_left = omega arith })

  module _ {low high rounds : ℕ} (s : Searching low high rounds) where
    module _ (some : low < high) where
      pub searching_after : passes (middle low high) ≡ true → Searching (middle low high) high (rounds + 1)
      searching_after t =
          let w = middle_among low high some in
          let c = s.counted in
          let r = those_after passes low high some t in
          let f = rw r at s.found in
          let k : rounds + ((halving passes (middle low high) high).rounds + 1) ≡ (halving passes 0 n).rounds = rw r at s.rounds_left in
          record { most = s.most; counted = omega arith; found = f; rounds_left = omega arith }

      pub searching_before : passes (middle low high) ≡ false → Searching low (middle low high - 1) (rounds + 1)
      searching_before t =
          let w = middle_among low high some in
          let c = s.counted in
          let m = s.most in
          let r = those_before passes low high some t in
          let f = rw r at s.found in
          let k : rounds + ((halving passes low (middle low high - 1)).rounds + 1) ≡ (halving passes 0 n).rounds = rw r at s.rounds_left in
          record { most = omega arith; counted = omega arith; found = f; rounds_left = omega arith }

    pub searching_done : high ≤ low → record { found = low; rounds = rounds } ≡ halving passes 0 n
    searching_done h =
        let e = none_left passes low high h in
        let f : low ≡ (halving passes 0 n).found = rw e at s.found in
        let k : rounds + 0 ≡ (halving passes 0 n).rounds = rw e at s.rounds_left in
        let g : rounds ≡ (halving passes 0 n).rounds = omega arith in
        rw (f, g)

module _ (t : List ℕ) (n k : ℕ) where
  range_zero : k ≡ 0 → (range_in t k).after - (range_in t k).before ≡ 0
  unfolding range_in
  range_zero z = rw z

  range_length : (k ≡ 0 → ⊥) → length (samples_in (layout_in t) k) ≡ (range_in t k).after - (range_in t k).before
  range_length h =
      let size = (range_in t k).after - (range_in t k).before in
      rw (range_samples t k (pos_of_ne-zero h)) (length-map (upto size) (λ i. (range_in t k).before + i) ∙ upto_length size)

  -- the search in the table's times
  pub base_searched : halving (λ i. time_of (layout_in t) ((range_in t k).before + i) ≤? time_of (layout_in t) n) 0 ((range_in t k).after - (range_in t k).before) ≡ base_search (layout_in t) n k
  base_searched = by_bool (eqb k 0)
      (λ q. let z = eqb-true k 0 q in rw (search_without_track (layout_in t) n z, range_zero z) (none_left _ 0 0 (omega arith)))
      (λ q.
      let h = eqb-false k 0 q in
      rw (searched (layout_in t) n h, range_length h)
      (halving_same _ _ 0 _ (λ i u v. rw (range_at t k (pos_of_ne-zero h) i u v))))

  pub base_in_range : base (layout_in t) n k ≤ (range_in t k).after - (range_in t k).before
  base_in_range = by_bool (eqb k 0)
      (λ q. rw (base_found (layout_in t) n k, search_without_track (layout_in t) n (eqb-true k 0 q)) (omega arith))
      (λ q. rw (← range_length (eqb-false k 0 q)) (base_most (layout_in t) n k))

  -- where there is a base there is a track
  pub base_track : (base (layout_in t) n k ≡ 0 → ⊥) → 0 < k
  base_track h = pos_of_ne-zero (λ z. h (rw (base_found (layout_in t) n k, search_without_track (layout_in t) n z)))

-- signed steps, as the code takes them
module _ (b offset : ℕ) where
  pub steps_ahead : offset < 128 → b + offset ≡ stepped b (signed offset)
  steps_ahead h = rw (lt-ltb offset 128 h)

  module _ (h : 128 ≤ offset) where
    pub steps_back : offset < 256 → b + offset - 256 ≡ stepped b (signed offset)
    steps_back g = rw (le-ltb offset 128 h) (by_bool (ltb (256 - offset) b)
        (λ q. let u = ltb-true (256 - offset) b q in rw q (omega arith))
        (λ q. let u = ltb-false (256 - offset) b q in rw q (omega arith)))

module _ (y : Layout) (n index : ℕ) where
  -- 23
  pub link_zero : index ≡ 0 → link_fault y n index ≡ bad_track_ref_index
  unfolding link_fault
  link_zero e = rw (eq-eqb index 0 e)

  pub link_past : (index ≡ 0 → ⊥) → length (references_from y (track_of y n)) < index → link_fault y n index ≡ bad_track_ref_index
  unfolding link_fault
  link_past h l = rw (ne_eqb index 0 h, lt-ltb (length (references_from y (track_of y n))) index l)

  pub linked_by : {own k : ℕ} → own ≡ track_of y n → k ≡ (nth (references_from y own) index no_reference).to → k ≡ linked_track y n index
  unfolding linked_track
  linked_by e f = f ∙ ap (λ (o : ℕ). (nth (references_from y o) index no_reference).to) e

  module _ (offset : ℕ) where
    -- the sample named, by the linked track k and the base b
    module _ {k : ℕ} (linked : k ≡ linked_track y n index) {b : ℕ} (found : b ≡ base y n k) where
      pub named_no_base : b ≡ 0 → sample_named y n index offset ≡ 0
      named_no_base e = named_baseless y n index offset (rw (← linked, ← found) e)

      pub named_at : {j : ℕ} → (b ≡ 0 → ⊥) → j ≡ stepped b (signed offset) → sample_named y n index offset ≡ nth (samples_in y k) j 0
      named_at {j} h e = rw (e, found, linked) (named_stepped y n index offset (rw (← linked, ← found) h))

    -- the answer
    pub name_link : (f : Fault) → number_of_fault f ≡ link_fault y n index → Err (number_of_fault f) ≡ naming y n index offset
    unfolding naming name_fault
    name_link f e = let h = fault_some f in by_number (number_of_fault f) (λ z. absurd (omega arith)) (λ g z. rw (← e, z, eqb-suc-zero g))

    pub name_found : link_fault y n index ≡ 0 → numbered (ok_or (sample_if_any (sample_named y n index offset)) fault.NoSampleNamed) ≡ naming y n index offset
    unfolding naming name_fault sample_if_any
    name_found e = by_number (sample_named y n index offset) (λ z. rw (e, z)) (λ g z. rw (e, z, eqb-suc-zero g))
