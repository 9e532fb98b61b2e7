-- The units that `extracted` finds: on any bytes, and in a copy without a refusal, where they are the copied ones. Assumes nothing.
--
--   plain_end, plain_skip, plain_take, plain_cut                                plain units from p up to e: none; those after p; p and those after it; none after a cut
--   unit_inside                                                                 a unit that a walk meets lies in the sample
--   Finding, finding_start, -end, -cut, -aggregator, -extractor, -found, -take  a loop that looks for the ith of them, by what stands at p
--   plain_inside                                                                one that is found lies in the sample
--   unit_past, unit_place                                                       bytes past the end; the bytes of a copied unit, by where it stands
--   plain_copied, unit_copied                                                   in a copy without a refusal
use Prim.Native.Nat.{ℕ, ◌+◌, ◌-◌, ◌≤◌, ◌<◌}
use mathlib.Core.Path.{◌≡◌, refl, ap, sym, ◌∙◌}
use mathlib.Core.List.{[], ◌∷◌, map, Memᴰ}
use mathlib.Core.Bool.{true, false, not}
use native.Mathlib.Omega.{arith}
use native.Mathlib.Nat.{pos_of_ne-zero}
use borrow.Author.Tests.{le-leb, lt-leb, leb-true, ltb-true, ltb-false}
use lib.Dec.{leb}
use Rattle.words.specs.Tests.{◌<?◌}
use Rattle.words.specs.Lists.{keep, nth}
use Rattle.words.proofs.Tests.{by_bool, true_false}
use Rattle.words.proofs.Lists.{keep_from, keep_mem}
use Rattle.words.proofs.Kept.{keep_same, keep_no, keep_yes}
use Rattle.words.proofs.Numbered.{nth_none, nth_first, nth_later, nth_other, nth_map, part_past}
use Rattle.units.specs.Units.{Sample, L, end, size, next, is_aggregator, is_extractor}
use Rattle.numbers.specs.declared.ByteOffset.{ByteOffset}
use Rattle.units.specs.declared.NalUnit.{NalUnit}
use Rattle.units.proofs.Units.{next_after}
use Rattle.unit_steps.specs.Items.{item_at}
use Rattle.unit_steps.specs.declared.Item.TheVariants.{Nothing, Aggregator, Extractor, Unit}
use Rattle.unit_steps.proofs.Items.{item_nothing, nothing_is, aggregator_is, extractor_is, unit_is}
use Rattle.copies.specs.Copies.{copy_end, copied, copy_fault}
use Rattle.copies.specs.Flat.{flat_step, flat_places}
use Rattle.copies.specs.Range.{copy_end_in}
use Rattle.copies.specs.Extracted.{unit_bytes, is_plain, plain_units, copied_unit}
use Rattle.copies.proofs.Flat.{flat_aggregator, flat_other, flat_end, flat_step_lem, flat_good}
use Rattle.copies.proofs.Copies.{copy_cut, copied_flat}
use Rattle.copies.proofs.Copied.{copy_rules}
use Rattle.copies.proofs.Answers.{good_formed, good_border}
use Rattle.copies.proofs.Ranges.{end_in}

module _ (z : Sample) where
  pub plain_end : (e p : ℕ) → e ≤ p → plain_units z p e ≡ []
  unfolding keep
  plain_end e p h = rw (flat_end z p e h)

  module _ (e p : ℕ) (h : p < e) where
    pub plain_skip : is_plain z p ≡ false → plain_units z p e ≡ plain_units z (flat_step z p) e
    plain_skip t = rw (flat_step_lem z p e h) (keep_no (is_plain z) p (flat_places z (flat_step z p) e) t)

    pub plain_take : is_plain z p ≡ true → plain_units z p e ≡ p ∷ plain_units z (flat_step z p) e
    plain_take t = rw (flat_step_lem z p e h) (keep_yes (is_plain z) p (flat_places z (flat_step z p) e) t)

    -- a unit that ends past the sample ends the walk
    pub plain_cut : e ≤ end z → is_aggregator z p ≡ false → end z < next z p → plain_units z p e ≡ []
    plain_cut l a i = plain_skip (rw (a, lt-leb (next z p) (end z) i) (by_bool (is_extractor z p) (λ g. rw g) (λ g. rw g))) ∙ rw (flat_other z p a) (plain_end e (next z p) (omega arith))

  -- a unit that a walk meets lies in the sample
  pub unit_inside : (p : ℕ) {u : NalUnit} → item_at z p ≡ Unit u → next z p ≤ end z
  unit_inside p e = by_bool (end z <? next z p)
      (λ t. let i = item_nothing z p (unit_is z p e).0 (ltb-true _ _ t) in let w : ◌≡◌ {A = ℕ} 0 1 = cc in absurd (omega arith))
      (λ t. ltb-false _ _ t)

  -- the ith plain unit from a on is the one at left from p on
  pub record Finding (a e i p left : ℕ) : Type 0 where
    pub some : 0 < left
    pub same : nth (plain_units z a e) i (end z) ≡ nth (plain_units z p e) left (end z)

  pub finding_start : (a e i : ℕ) → (i ≡ 0 → ⊥) → Finding a e i a i
  finding_start a e i h = record { some = pos_of_ne-zero h; same = refl }

  module _ (a e i p left : ℕ) (c : Finding a e i p left) where
    pub finding_end : e ≤ p → end z ≡ nth (plain_units z a e) i (end z)
    finding_end h = sym (c.same ∙ rw (plain_end e p h) (nth_none left (end z)))

    -- by what stands at p
    module _ (h : p < e) where
      pub finding_cut : e ≤ end z → item_at z p ≡ Nothing → end z ≡ nth (plain_units z a e) i (end z)
      finding_cut l m = let w = nothing_is z p m in sym (c.same ∙ rw (plain_cut e p h l w.0 w.1) (nth_none left (end z)))

      pub finding_aggregator : {q : ByteOffset} → item_at z p ≡ Aggregator q → Finding a e i q.0 left × (p < q.0)
      finding_aggregator m =
          let w = aggregator_is z p m in
          rw w.1 (record { some = c.some; same = c.same ∙ rw (plain_skip e p h (rw w.0), flat_aggregator z p w.0) }, omega arith)

      pub finding_extractor : {q : ByteOffset} → item_at z p ≡ Extractor q → Finding a e i q.0 left × (p < q.0)
      finding_extractor m =
          let w = extractor_is z p m in
          rw w.2 (record { some = c.some; same = c.same ∙ rw (plain_skip e p h (rw (w.0, w.1)), flat_other z p w.0) }, next_after z p)

      module _ {u : NalUnit} (m : item_at z p ≡ Unit u) where
        take : plain_units z p e ≡ p ∷ plain_units z (next z p) e
        take = let w = unit_is z p m in plain_take e p h (rw (w.0, w.1, le-leb (next z p) (end z) (unit_inside p m))) ∙ rw (flat_other z p w.0)

        pub finding_found : left - 1 ≡ 0 → p ≡ nth (plain_units z a e) i (end z)
        finding_found d = sym (c.same ∙ rw take (nth_first p _ left (end z) c.some d))

        pub finding_take : (left - 1 ≡ 0 → ⊥) → Finding a e i u.next.0 (left - 1) × (p < u.next.0)
        finding_take d = rw (unit_is z p m).2 (record { some = pos_of_ne-zero d; same = c.same ∙ rw take (nth_later p _ left (end z) d) }, next_after z p)

  -- one that is found lies in the sample
  pub plain_inside : (a e i q : ℕ) → q ≡ nth (plain_units z a e) i (end z) → q < end z → next z q ≤ end z
  plain_inside a e i q s h =
      let m = nth_other (plain_units z a e) i (end z) (λ d. absurd (omega arith)) in
      ends q (keep_from (is_plain z) (flat_places z a e) (rw (← s) at m)).1
    where
      ends : (q : ℕ) → is_plain z q ≡ true → next z q ≤ end z
      ends q t = by_bool (leb (next z q) (end z)) (λ u. leb-true _ _ u) (λ u. by_bool (is_aggregator z q)
          (λ a. true_false _ t (rw a))
          (λ a. by_bool (is_extractor z q) (λ g. true_false _ t (rw (a, g))) (λ g. true_false _ t (rw (a, g, u)))))

  pub unit_past : (q : ℕ) → end z ≤ q → unit_bytes z q ≡ []
  unit_past q h = part_past z.content (q + L z) (size z q) (omega arith)

  module _ (o n : ℕ) where
    pub unit_place : (i : ℕ) → copied_unit z o n i ≡ unit_bytes z (nth (plain_units z o (copy_end_in z o n)) i (end z))
    unfolding copied_unit
    unit_place i =
        ap (nth (map (unit_bytes z) (plain_units z o (copy_end_in z o n))) i) (sym (unit_past (end z) (omega arith)))
        ∙ nth_map (unit_bytes z) (plain_units z o (copy_end_in z o n)) i (end z)

    -- a copy without a refusal
    module _ (g : copy_fault z o n ≡ 0) where
      same_kept : (q : ℕ) → Memᴰ q (flat_places z o (copy_end z o n)) → is_plain z q ≡ not (is_aggregator z q)
      same_kept q m = let f = good_formed z o n g in let b = good_border z o n g in by_bool (is_aggregator z q)
          (λ t. rw t)
          (λ t.
          let w = (flat_good z o (copy_end z o n) (copy_cut z o n b f) q m).0 in
          let i : Memᴰ q (copied z o n) = rw (copied_flat z o n b f) (keep_mem (λ q. not (is_aggregator z q)) (flat_places z o (copy_end z o n)) m (rw t)) in
          rw (t, (copy_rules z o n g).no_extractor q i, le-leb (next z q) (end z) w.inside))

      pub plain_copied : plain_units z o (copy_end_in z o n) ≡ copied z o n
      plain_copied = let f = good_formed z o n g in let b = good_border z o n g in
          rw (end_in z o n f b) (keep_same (is_plain z) (λ q. not (is_aggregator z q)) (flat_places z o (copy_end z o n)) same_kept ∙ sym (copied_flat z o n b f))

      pub unit_copied : (i : ℕ) → copied_unit z o n i ≡ nth (map (unit_bytes z) (copied z o n)) i []
      unfolding copied_unit
      unit_copied i = rw plain_copied
