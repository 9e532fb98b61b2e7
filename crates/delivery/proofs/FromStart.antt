-- From the start of a good sample, what is left is what it delivers. Assumes nothing.
--
--   copy_rest        what is left while a copy is gone over: its units, then what the sample goes on with
--   own_rest         what is left of the own sample
--   rest_start       what is left at the start
use Rattle.std.specs.Prelude.{Some}
use Prim.Native.Nat.{ℕ, zero, suc, ◌+◌, ◌-◌, ◌≤◌, ◌<◌}
use mathlib.Core.Path.{◌≡◌, refl, ap, ◌∙◌}
use mathlib.Core.List.{List, ◌++◌}
use mathlib.Core.Bool.{true, false}
use native.Mathlib.Omega.{arith}
use borrow.Author.Tests.{leb-true, leb-false, lt-ltb}
use lib.Dec.{leb}
use Rattle.words.specs.Refusals.{ok}
use Rattle.words.specs.Lists.{some}
use Rattle.words.proofs.Tests.{by_bool, true_false}
use Rattle.words.proofs.Refusals.{or_else_none}
use Rattle.words.proofs.Lists.{keep_mem, some_none}
use Rattle.units.specs.Units.{Sample, sample, end, next, is_aggregator, is_extractor}
use Rattle.units.specs.Extractors.{track_ref_index, sample_offset, data_offset, data_length}
use Rattle.units.specs.Aggregators.{included_start, units, extractors}
use Rattle.units.specs.Steps.{place, unit_of, extractor_of, extractor_at}
use Rattle.units.specs.declared.Track.{Track}
use Rattle.units.proofs.Units.{next_after, whole_end}
use Rattle.numbers.proofs.Laws.{L_some}
use Rattle.samples.proofs.Laws.{extractor_step}
use Rattle.bundles.specs.Recordings.{Recording, content_of}
use Rattle.links.specs.Links.{name_fault}
use Rattle.copies.specs.Copies.{copy_end, copied, copy_fault}
use Rattle.copies.proofs.Flat.{Walking, walking_start, walking_whole}
use Rattle.copies.proofs.Copies.{copy_cut}
use Rattle.copies.proofs.Copied.{copy_rules, rules_copy}
use Rattle.copies.proofs.Answers.{good_formed, good_border, good_flat}
use Rattle.copies.proofs.Ranges.{end_in}
use Rattle.copies.proofs.Rest as copies
use Rattle.resolution_rules.specs.Resolving.{spans_of, own, named, linked, name_fault_at, extract_fault, copied_at, judged}
use Rattle.resolution_rules.specs.Rules.{Good}
use Rattle.resolution_rules.proofs.Good.{good_rules, rules_extract}
use Rattle.delivery.specs.Steps.{start, track_for, copy_of, number_after, unit_in, copy_step_by, extractor_step_by, step_of}
use Rattle.delivery.specs.Deliveries.{Delivery, copies_from, deliveries}
use Rattle.delivery.specs.declared.CopyCursor.{CopyCursor}
use Rattle.delivery.specs.declared.Cursor.{Cursor}
use Rattle.unit_steps.specs.Items.{item_at}
use Rattle.unit_steps.specs.declared.Item.{Item}
use Rattle.unit_steps.specs.declared.Item.TheVariants.{Unit}
use Rattle.delivery.specs.declared.Source.TheVariants.{Copy}
use Rattle.delivery.specs.declared.Stepped.TheVariants as step
use Rattle.unit_steps.proofs.Items.{item_aggregator, item_extractor, item_unit, item_end}
use Rattle.delivery.proofs.Steps.{track_sample, step_copy, step_own, replaced_named}
use Rattle.delivery.proofs.Rests.{rest, rest_done, rest_moved, rest_unit}
use Rattle.delivery.proofs.Passing.{remaining, remaining_end, remaining_skip, remaining_take, remaining_start, Passing, passing_start, passing_skip, passing_take, passing_mem}
use Rattle.delivery.proofs.Deliveries.{deliveries_unit, deliveries_extractor}

-- a copy of the sample z, which is sample m, up to f, for the extractor at e; the own sample goes on at p
module _ (r : Recording) (n : ℕ) (x : Sample) (p e m f : ℕ) (t : Track) (z : Sample) (same : sample t (content_of r m) ≡ z) where
  -- k units of it are delivered
  abbrev At : ℕ → ℕ → Cursor
  At q k = record { place = place p; copy = record { extractor = place e; named = record { 0 = m }; track = t; at = place q; end = place f; count = k } }

  -- what is left of the copy, numbered from the first one that is not yet delivered
  abbrev copy_left : ℕ → ℕ → List Delivery
  copy_left q k = copies_from e (k + 1) (spans_of m z (copies.rest z f q))

  step_at : (q k : ℕ) (h : Item) → q < f → item_at z q ≡ h → step_of r n x (At q k) ≡ copy_step_by (At q k) h
  step_at q k h l g = step_copy r n x (At q k) {i = h} l (rw same g)

  -- a unit takes a byte at least, so its number is one more
  step_unit : (q k : ℕ) → k ≤ q → q < f → item_at z q ≡ Unit (unit_of z q) →
      step_of r n x (At q k) ≡ step.Unit (unit_in (record { 0 = m }) (Copy (place e) (k + 1)) (unit_of z q)) (At (next z q) (k + 1))
  unfolding number_after
  step_unit q k h l g = let a = next_after z q in step_at q k _ l g ∙ rw (lt-ltb k (next z q) (omega arith))

  module _ (us : List Delivery) (after : (k : ℕ) → rest r n x (At f k) ≡ us) where
    copy_end_lem : (q k : ℕ) → f ≤ q → q ≤ f → rest r n x (At q k) ≡ copy_left q k ++ us
    unfolding copies_from
    copy_end_lem q k h l = let i : q ≡ f = omega arith in rw (copies.rest_end z f q h) (rw i (after k))

    -- no extractor is left in it
    copy_rest : (j q k : ℕ) → f - q ≤ j → k ≤ q → Walking z f q → some (is_extractor z) (copies.rest z f q) ≡ false → rest r n x (At q k) ≡ copy_left q k ++ us
    unfolding some copies_from
    copy_rest zero q k h b w none = let i = w.inside in copy_end_lem q k (omega arith) (omega arith)
    copy_rest (suc j) q k h b w none = let l = L_some z.length_size in by_bool (leb f q)
        (λ t. let i = leb-true f q t in copy_end_lem q k i w.inside)
        (λ t. let i = leb-false f q t in let u = (whole_end z (end z) q (walking_whole z f q w i)).1 in by_bool (is_aggregator z q)
        (λ a. rw (copies.rest_skip z f q i a)
        (rest_moved r n x (At q k) (step_at q k _ i (item_aggregator z q a))
        ∙ copy_rest j (included_start z q) k (omega arith) (omega arith) (copies.walking_skip z f q w i a) (rw (copies.rest_skip z f q i a) at none)))
        (λ a. by_bool (is_extractor z q)
        (λ g. true_false _ (rw (copies.rest_take z f q i a, g)) none)
        (λ g. rw (copies.rest_take z f q i a)
        (rest_unit r n x (At q k) (step_unit q k b i (item_unit z q a u g))
        ∙ rw (copy_rest j (next z q) (k + 1) (omega arith) (omega arith) (copies.walking_take z f q w i a) (rw (copies.rest_take z f q i a, g) at none))))))

module _ (r : Recording) (n : ℕ) (good : Good r n) where
  abbrev X : Sample
  X = own r n

  -- a cursor over the own sample that has come to an extractor
  module _ (p : ℕ) (k : CopyCursor) (h : k.end.0 ≤ k.at.0) (w : Passing r n X p) (i : p < end X) (a : is_aggregator X p ≡ false) (t : is_extractor X p ≡ true) where
    abbrev C : Cursor
    C = record { place = place p; copy = k }

    abbrev O : ℕ
    O = data_offset X p

    abbrev N : ℕ
    N = data_length X p

    abbrev Z : Sample
    Z = linked r n p

    -- none of 23 to 28
    no_fault : extract_fault r n p ≡ 0
    unfolding extractors
    no_fault = rules_extract r n p (good.extracts p (keep_mem (is_extractor X) (units X) (passing_mem r n X p w i a) t))

    names : name_fault r.layout n (track_ref_index X p) (sample_offset X p) ≡ 0
    unfolding extract_fault name_fault_at
    names = (or_else_none (name_fault_at r n p) _ no_fault).0

    copies_good : copy_fault Z O N ≡ 0
    unfolding extractors
    copies_good = rules_copy Z O N (good.extracts p (keep_mem (is_extractor X) (units X) (passing_mem r n X p w i a) t)).copy

    reads : extractor_at X (end X) p ≡ Some (extractor_of X p)
    unfolding extractors
    reads = extractor_step X w.formed p (keep_mem (is_extractor X) (units X) (passing_mem r n X p w i a) t)

    step_extractor : step_of r n X C ≡ step.Moved (record { place = place (next X p); copy = copy_of r (record { 0 = named r n p }) (place p) (extractor_of X p) })
    unfolding named
    step_extractor =
        step_own r n X C h (item_extractor X p a (whole_end X (end X) p (walking_whole X (end X) p w.walking i)).1 t)
        ∙ ap (extractor_step_by r n (place p) (place (next X p))) reads
        ∙ replaced_named r n (place p) (place (next X p)) (extractor_of X p) names

    plain : some (is_extractor Z) (copies.rest Z (copy_end Z O N) O) ≡ false
    plain = rw (← good_flat Z O N copies_good) (some_none (is_extractor Z) (copied Z O N) (copy_rules Z O N copies_good).no_extractor)

    copied_rest : copied_at r n p ≡ spans_of (named r n p) Z (copies.rest Z (copy_end Z O N) O)
    unfolding copied_at
    copied_rest = rw (good_flat Z O N copies_good)

    extractor_rest :
        ((q : CopyCursor) → q.end.0 ≤ q.at.0 → rest r n X (record { place = place (next X p); copy = q }) ≡ remaining r n X (next X p)) →
        rest r n X C ≡ remaining r n X p
    extractor_rest after =
        let f = copy_end Z O N in
        let k = good_formed Z O N copies_good in
        let b = good_border Z O N copies_good in
        let m = named r n p in
        rest_moved r n X C step_extractor
        ∙ rw (end_in Z O N k b, remaining_take r n X p i a, deliveries_extractor r n p t, copied_rest)
        (copy_rest r n X (next X p) p m f (track_for r.layout m) Z (track_sample r m) _
        (λ k. after (record { extractor = place p; named = record { 0 = m }; track = track_for r.layout m; at = place f; end = place f; count = k }) (omega arith))
        f O 0 (omega arith) (omega arith) (walking_start Z O f (copy_cut Z O N b k)) plain)

  own_end : (p : ℕ) (k : CopyCursor) → end X ≤ p → k.end.0 ≤ k.at.0 → rest r n X (record { place = place p; copy = k }) ≡ remaining r n X p
  own_end p k h l = rw (remaining_end r n X p h) (rest_done r n X (record { place = place p; copy = k }) (step_own r n X (record { place = place p; copy = k }) l (item_end X p h)))

  own_rest : (j p : ℕ) (k : CopyCursor) → end X - p ≤ j → Passing r n X p → k.end.0 ≤ k.at.0 → rest r n X (record { place = place p; copy = k }) ≡ remaining r n X p
  own_rest zero p k h w l = own_end p k (omega arith) l
  own_rest (suc j) p k h w l = let b = L_some X.length_size in by_bool (leb (end X) p)
      (λ t. own_end p k (leb-true (end X) p t) l)
      (λ t. let i = leb-false (end X) p t in let u = (whole_end X (end X) p (walking_whole X (end X) p w.walking i)).1 in let c : Cursor = record { place = place p; copy = k } in by_bool (is_aggregator X p)
      (λ a. rw (remaining_skip r n X p w i a)
      (rest_moved r n X c (step_own r n X c l (item_aggregator X p a))
      ∙ own_rest j (included_start X p) k (omega arith) (passing_skip r n X p w i a) l))
      (λ a. by_bool (is_extractor X p)
      (λ g. extractor_rest p k l w i a g (λ q m. own_rest j (next X p) q (omega arith) (passing_take r n X p w i a) m))
      (λ g. rw (remaining_take r n X p i a, deliveries_unit r n p a g)
      (rest_unit r n X c (step_own r n X c l (item_unit X p a u g))
      ∙ rw (own_rest j (next X p) k (omega arith) (passing_take r n X p w i a) l)))))

  start_rest : rest r n X start ≡ deliveries r n
  start_rest = rw (← remaining_start r n X refl good.formed) (own_rest (end X) 0 start.copy (omega arith) (passing_start r n X refl good.formed) (omega arith))

pub rest_start : (r : Recording) (n : ℕ) (x : Sample) → x ≡ own r n → judged r n ≡ ok tt → rest r n x start ≡ deliveries r n
rest_start r n x e g = rw e (start_rest r n (good_rules r n g))
