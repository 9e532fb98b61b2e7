-- A walk over the units of a sample that counts what is delivered. Assumes nothing.
--
--   Counting                     what a loop that has come to p has counted
--   counting_start               nothing
--   counting_skip, -unit, -copy  an aggregator's head; a unit of its own; an extractor
--   unit_fits, copy_fits         the sums fit
--   counting_refused, -end       what is judged of the sample
use Rattle.std.specs.Prelude.{Err, Ok}
use Prim.Native.Nat.{ℕ, ◌+◌, ◌*◌, ◌≤◌, ◌<◌}
use mathlib.Core.Path.{◌≡◌, refl, ap, sym, ◌∙◌}
use mathlib.Core.List.{List, [], ◌∷◌, ◌++◌, append-nil, append_assoc, Memᴰ}
use mathlib.Core.Bool.{true, false}
use native.Mathlib.Omega.{arith}
use lib.ListN.{length, length-append, length-map}
use Rattle.words.specs.Refusals.{ok, refused, ◌and_then◌, ◌at_place◌}
use Rattle.words.proofs.Refusals.{at_refused}
use Rattle.words.proofs.Lists.{keep_mem}
use Rattle.units.specs.Units.{Sample, end, size, next, is_aggregator, is_extractor}
use Rattle.units.specs.Aggregators.{included_start, units, extractors}
use Rattle.units.specs.Steps.{extractor_at}
use Rattle.units.proofs.Units.{next_after, whole_end}
use Rattle.numbers.proofs.Laws.{L_some}
use Rattle.samples.specs.Check.{check}
use Rattle.bundles.specs.Limits.{bundle_most}
use Rattle.bundles.specs.Recordings.{Recording}
use Rattle.copies.proofs.Flat.{walking_whole}
use Rattle.resolution_rules.specs.Resolving.{own, span_of, sample_of, copied_at, extract_fault, delivered, judged}
use Rattle.resolution_rules.specs.Amounts.{total_size}
use Rattle.resolution_rules.proofs.Delivered.{unit_judge_lem, unit_passes}
use Rattle.delivery.specs.Deliveries.{Delivery, delivery, copies_from, deliveries_at, deliveries}
use Rattle.delivery.specs.declared.Source.TheVariants.{Own}
use Rattle.delivery.proofs.Deliveries.{own_size, copied_size, own_none, own_add, own_append, copied_none, copied_add, copied_append, copied_own, copied_all, copies_length, deliveries_spans, deliveries_unit, deliveries_extractor, deliveries_own, deliveries_copied}
use Rattle.delivery.proofs.Passing.{remaining, judged_from, remaining_end, remaining_skip, remaining_take, from_end, from_skip, from_take, remaining_start, from_start, Passing, passing_start, passing_skip, passing_take, passing_mem}
use Rattle.judging.specs.Steps.{judgement}
use Rattle.mark_rules.specs.declared.CopyAmount.{CopyAmount}
use Rattle.verdicts.specs.Amounts.{amount_by}
use Rattle.verdicts.proofs.Copied.{Few, CopyIs, is_refused_lem, is_good, extractor_amount}

module _ (r : Recording) (n : ℕ) (x : Sample) where
  pub record Counting (count mine copied p : ℕ) : Type 0 where
    pub passing : Passing r n x p
    pub verdict : judged r n ≡ judged_from r n x p
    pub done : List Delivery
    pub split : deliveries r n ≡ done ++ remaining r n x p
    pub counts : count ≡ length done
    pub owns : mine ≡ own_size done
    pub copies : copied ≡ copied_size done
    pub few : (count ≤ p * bundle_most) × (mine ≤ p) × (copied ≤ p * bundle_most)

  pub counting_start : x ≡ own r n → check x ≡ ok tt → Counting 0 0 0 0
  counting_start e f = record {
    passing = passing_start r n x e f;
    verdict = sym (from_start r n x e f);
    done = [];
    split = sym (remaining_start r n x e f);
    counts = refl;
    owns = sym own_none;
    copies = sym copied_none;
    few = (omega arith, omega arith, omega arith);
  }

  module _ (count mine copied p : ℕ) (c : Counting count mine copied p) (h : p < end x) where
    pub counting_skip : is_aggregator x p ≡ true → Counting count mine copied (included_start x p)
    counting_skip t =
        let l = L_some x.length_size in
        let f = c.few in
        record {
          passing = passing_skip r n x p c.passing h t;
          verdict = c.verdict ∙ from_skip r n x p c.passing h t;
          done = c.done;
          split = c.split ∙ ap (λ ds. c.done ++ ds) (remaining_skip r n x p c.passing h t);
          counts = c.counts;
          owns = c.owns;
          copies = c.copies;
          few = (omega arith, omega arith, omega arith);
        }

    module _ (a : is_aggregator x p ≡ false) where
      inside : next x p ≤ end x
      inside = (whole_end x (end x) p (walking_whole x (end x) p c.passing.walking h)).1

      here : is_aggregator (own r n) p ≡ false
      here = rw c.passing.same at a

      goes : (ds : List Delivery) → deliveries_at r n p ≡ ds → deliveries r n ≡ (c.done ++ ds) ++ remaining r n x (next x p)
      goes ds e =
          c.split
          ∙ ap (λ rest. c.done ++ rest) (remaining_take r n x p h a ∙ ap (λ us. us ++ remaining r n x (next x p)) e)
          ∙ sym (append_assoc c.done ds (remaining r n x (next x p)))

      -- a unit of its own
      module _ (t : is_extractor x p ≡ false) where
        plain : is_extractor (own r n) p ≡ false
        plain = rw c.passing.same at t

        pub unit_fits : (count + 1 ≤ next x p * bundle_most) × (mine + size x p ≤ next x p)
        unit_fits = let l = L_some x.length_size in let f = c.few in (omega arith, omega arith)

        pub counting_unit : Counting (count + 1) (mine + size x p) copied (next x p)
        counting_unit =
            let d = delivery Own (span_of n (own r n) p) in
            let l = L_some x.length_size in
            let f = c.few in
            let k = length-append c.done (d ∷ []) in
            let o = own_add c.done d in
            let q = copied_add c.done d in
            let i = c.counts in
            let j = c.owns in
            let m = c.copies in
            let s : size (own r n) p ≡ size x p = ap (λ (y : Sample). size y p) (sym c.passing.same) in
            record {
              passing = passing_take r n x p c.passing h a;
              verdict = c.verdict ∙ from_take r n x p h a ∙ rw (unit_passes r n p plain);
              done = c.done ++ (d ∷ []);
              split = goes (d ∷ []) (deliveries_unit r n p here plain);
              counts = omega arith;
              owns = omega arith;
              copies = omega arith;
              few = (omega arith, omega arith, omega arith);
            }

      -- an extractor
      module _ (t : is_extractor x p ≡ true) where
        extracts : is_extractor (own r n) p ≡ true
        extracts = rw c.passing.same at t

        listed : Memᴰ p (extractors x)
        unfolding extractors
        listed = keep_mem (is_extractor x) (units x) (passing_mem r n x p c.passing h a) t

        from : judged r n ≡ ((extract_fault r n p at_place p) and_then judged_from r n x (next x p))
        from = c.verdict ∙ from_take r n x p h a ∙ rw (unit_judge_lem r n p extracts)

        faulty : (f : ℕ) → extract_fault r n p ≡ f → 0 < f → judgement r n ≡ refused f p
        unfolding judgement
        faulty f e z = rw (from, at_refused p (sym e) (λ i. omega arith))

        module _ (m b : ℕ) (e : extract_fault r n p ≡ 0) (u : m ≡ length (copied_at r n p)) (v : b ≡ total_size (copied_at r n p)) (w : Few bundle_most m b) where
          fits : (count + m ≤ next x p * bundle_most) × (copied + b ≤ next x p * bundle_most)
          fits = let l = next_after x p in let f = c.few in (omega (arith, w.count_few), omega (arith, w.bytes_few))

          more : Counting (count + m) mine (copied + b) (next x p)
          more =
              let ds = copies_from p 1 (copied_at r n p) in
              let l = next_after x p in
              let g = fits in
              let f = c.few in
              let k = length-append c.done ds in
              let y = copies_length p 1 (copied_at r n p) in
              let o = own_append c.done ds in
              let oo = copied_own p 1 (copied_at r n p) in
              let q = copied_append c.done ds in
              let qq = copied_all p 1 (copied_at r n p) in
              let i = c.counts in
              let j = c.owns in
              let z = c.copies in
              record {
                passing = passing_take r n x p c.passing h a;
                verdict = from ∙ rw e;
                done = c.done ++ ds;
                split = goes ds (deliveries_extractor r n p extracts);
                counts = omega arith;
                owns = omega arith;
                copies = omega arith;
                few = (g.0, omega arith, g.1);
              }

        -- what the code finds of it
        module _ (few : (m : ℕ) → end (sample_of r m) ≤ bundle_most) where
          found : CopyIs r n p bundle_most (amount_by r n (extractor_at x (end x) p))
          found = rw c.passing.same (extractor_amount r n bundle_most few p (rw c.passing.same at c.passing.formed) (rw c.passing.same at listed))

          pub counting_refused : {f : ℕ} → amount_by r n (extractor_at x (end x) p) ≡ Err f → judgement r n ≡ refused f p
          counting_refused e = let w = is_refused_lem r n p bundle_most found e in faulty _ w.0 w.1

          pub copy_fits : {k : CopyAmount} → amount_by r n (extractor_at x (end x) p) ≡ Ok k → (count + k.count ≤ next x p * bundle_most) × (copied + k.bytes ≤ next x p * bundle_most)
          copy_fits {k} e = let w = is_good r n p bundle_most found e in fits k.count k.bytes w.0 w.1 w.2 w.3

          pub counting_copy : {k : CopyAmount} → amount_by r n (extractor_at x (end x) p) ≡ Ok k → Counting (count + k.count) mine (copied + k.bytes) (next x p)
          counting_copy {k} e = let w = is_good r n p bundle_most found e in more k.count k.bytes w.0 w.1 w.2 w.3

  module _ (count mine copied p : ℕ) (c : Counting count mine copied p) where
    pub counting_end : end x ≤ p → judgement r n ≡ ok (record { count = count; own_bytes = mine; copied_bytes = copied })
    unfolding judgement
    counting_end h =
        let d : deliveries r n ≡ c.done = c.split ∙ rw (remaining_end r n x p h) (append-nil c.done) in
        let l : length (delivered r n) ≡ count = ap length (sym (deliveries_spans r n)) ∙ length-map (deliveries r n) _ ∙ ap length d ∙ sym c.counts in
        let o = sym (deliveries_own r n) ∙ ap own_size d ∙ sym c.owns in
        let k = sym (deliveries_copied r n) ∙ ap copied_size d ∙ sym c.copies in
        rw (c.verdict, from_end r n x p h, l, o, k)
