-- What the check promises, and what upper crates need of a well-formed sample. For any kind and any L. Assumes nothing.
--
--   rules, rules_check                             no fault exactly if every unit's rules hold: `check x ≡ ok tt` gives Rules x, and Rules x gives it
--   formed, formed_ok                              `well_formed x ≡ true` is the same as `check x ≡ ok tt`
--   first_walk_first                               a refusal of the first walk is the answer
--   empty_formed                                   zero bytes are a well-formed sample
--   check_top                                      in a well-formed sample the first walk passed
--   top_tile                                       where the first walk passed, the top-level units lie without gap or overlap, from 0 to the end
--   included_tile                                  the included units lie so too, from the aggregator's additional_bytes to its end
--   included_inside                                an included unit lies in its aggregator and is no aggregator
--   covered_border, covered_clear, covered_inside  what an aggregator covers ends on a border, holds no aggregator and lies in the sample
--   unit_whole, unit_inside, units_rise            each unit is whole and lies in the sample; places of units rise
--   extractor_step                                 the total step gives the extractors of a well-formed sample
--   check_refusals                                 a refusal of the check is 14 to 22, at a place in the sample
--   alone_refusals                                 outside a bundle it is 4 or 11 at 0 besides
use Rattle.std.specs.Prelude.{None, Option, Some}
use Prim.Native.Nat.{ℕ, ◌≤◌, ◌<◌}
use mathlib.Core.Path.{◌≡◌, sym, ◌∙◌}
use mathlib.Core.List.{List, [], Memᴰ}
use mathlib.Core.Bool.{true, false}
use mathlib.Core.Logic.{inl, inr}
use native.Mathlib.Omega.{arith}
use borrow.Author.Tests.{eqb-true, ltb-true, ltb-false}
use Rattle.words.specs.Tests.{◌<?◌}
use Rattle.words.specs.Refusals.{ok, refused, first}
use Rattle.words.specs.RefusalNumbers.{unknown_kind, bad_length_size}
use Rattle.words.proofs.Tests.{by_bool, true_false}
use Rattle.words.proofs.Refusals.{and_ok, at_ok, at_none, first_ok, by_verdict, first_all, first_from}
use Rattle.words.proofs.Lists.{keep_from, Rising}
use Rattle.numbers.specs.Kinds.{kind_of}
use Rattle.numbers.specs.Sizes.{extractor_size, length_size_of}
use Rattle.units.specs.Units.{aggregator_type, extractor_type, Sample, end, size, type, next, is_aggregator, is_extractor, unit_fault, places_from, top_units, border}
use Rattle.units.specs.Aggregators.{included_start, included, cover_end, cover_fault, units, extractors}
use Rattle.units.specs.Steps.{extractor_of, extractor_at}
use Rattle.units.specs.Rules.{Whole, Clear, Tiles}
use Rattle.units.proofs.Units.{whole_end, whole_wider, whole_aggregator, extractor_size_lem, extractor_none, included_rules, included_none}
use Rattle.units.proofs.Walks.{in_places, in_top, units_from, places_tile, border_past}
use Rattle.units.proofs.Walks as walks
use Rattle.units.proofs.Covers.{cover_good, cover_border, cover_clear}
use Rattle.units.proofs.Steps.{extractor_there}
use Rattle.samples.specs.Check.{inside_verdict, cover_verdict, content_verdict, top_verdict, contents_verdict, check, well_formed, check_of, check_alone}
use Rattle.samples.specs.Rules.{Rules, SampleRefusal, AloneRefusal}
use Rattle.samples.proofs.Refusals.{unit_form, sample_refusal, content_refusal}
use Rattle.samples.proofs.Walks.{top_judge, included_judge, top_whole, whole_top, content_ok, content_other}
use Rattle.numbers.specs.declared.Kind.{Kind}
use Rattle.numbers.specs.declared.LengthSize.{LengthSize}

module _ (x : Sample) where
  -- both walks passed
  both : check x ≡ ok tt → (top_verdict x ≡ ok tt) × (contents_verdict x ≡ ok tt)
  unfolding check
  both e = and_ok (top_verdict x) (contents_verdict x) e

  -- what stands in an aggregator, or in another unit, without a fault
  content : check x ≡ ok tt → (p : ℕ) → Memᴰ p (top_units x) → content_verdict x p ≡ ok tt
  content e p m = first_ok (content_verdict x) (top_units x) (both e).1 m

  inner : check x ≡ ok tt → (p : ℕ) → Memᴰ p (top_units x) → is_aggregator x p ≡ true → (first (included_judge x (next x p)) (included x p) ≡ ok tt) × (cover_fault x p ≡ 0)
  unfolding inside_verdict cover_verdict
  inner e p m t = let w = rw t at (content_ok x p (content e p m)) in (w.0, at_ok _ p w.1)

  pub rules : check x ≡ ok tt → Rules x
  rules e = record {
    tops = top_whole x (both e).0;
    inside = λ p q m t k. included_rules x (next x p) q (at_ok _ q (first_ok (included_judge x (next x p)) (included x p) (inner e p m t).0 k));
    borders = λ p m t. cover_border x p (inner e p m t).1;
    clear = λ p m t. cover_clear x p (inner e p m t).1;
    extractors = λ p m t. by_bool (is_aggregator x p)
        (λ a. let i = eqb-true (type x p) extractor_type t in let j = eqb-true (type x p) aggregator_type a in absurd (omega arith))
        (λ a. extractor_size_lem x p (at_ok _ p (sym (content_other x p a) ∙ content e p m)) t);
  }

  pub rules_check : Rules x → check x ≡ ok tt
  unfolding check content_verdict inside_verdict cover_verdict
  rules_check r = rw (whole_top x r.tops) (first_all (content_verdict x) (top_units x) (λ p m. by_bool (is_aggregator x p)
      (λ t. rw (t, first_all (included_judge x (next x p)) (included x p) (λ q k. at_none q (included_none x (next x p) q (r.inside p q m t k)))) (at_none p (cover_good x p (r.borders p m t) (r.clear p m t))))
      (λ t. rw (t, at_none p (extractor_none x p (r.extractors p m))))))

  pub formed : check x ≡ ok tt → well_formed x ≡ true
  formed e = rw e

  pub formed_ok : well_formed x ≡ true → check x ≡ ok tt
  formed_ok e = by_verdict (check x) (λ n p v. true_false _ e (rw v)) (λ v. v)

  -- 14 to 18 of any top-level unit come before anything of the second walk, and are the answer whatever stands in the units
  pub first_walk_first : (n p : ℕ) → top_verdict x ≡ refused n p → check x ≡ refused n p
  unfolding check
  first_walk_first n p e = rw e

  pub empty_formed : x.content ≡ [] → check x ≡ ok tt
  unfolding check top_units places_from first
  empty_formed e = rw e

  -- where the first walk passed, already before the second
  pub top_tile : top_verdict x ≡ ok tt → Tiles x 0 (end x) (top_units x)
  unfolding top_units
  top_tile e = places_tile x 0 (end x) (omega arith) (top_whole x e)

  pub check_top : check x ≡ ok tt → top_verdict x ≡ ok tt
  check_top e = (both e).0

  -- what upper crates need of a well-formed sample
  module _ (e : check x ≡ ok tt) where
    module _ (p : ℕ) (m : Memᴰ p (top_units x)) (t : is_aggregator x p ≡ true) where
      pub included_tile : Tiles x (included_start x p) (next x p) (included x p)
      included_tile = places_tile x (included_start x p) (next x p) (whole_aggregator x (end x) p ((rules e).tops p m) t) (λ q k. ((rules e).inside p q m t k).unit)

      pub included_inside : (q : ℕ) → Memᴰ q (included x p) → (included_start x p ≤ q) × (next x q ≤ next x p) × (is_aggregator x q ≡ false)
      included_inside q k =
          let i = (rules e).inside p q m t k in
          ((in_places x (included_start x p) (next x p) q k).0, (whole_end x (next x p) q i.unit).1, i.flat)

      pub covered_border : border x (cover_end x p) ≡ true
      covered_border = (rules e).borders p m t

      pub covered_clear : Clear x (next x p) (cover_end x p)
      covered_clear = (rules e).clear p m t

      pub covered_inside : cover_end x p ≤ end x
      covered_inside = by_bool (end x <? cover_end x p)
          (λ h. true_false _ covered_border (border_past x (cover_end x p) (ltb-true _ _ h)))
          (λ h. ltb-false _ _ h)

    found : (p : ℕ) → Memᴰ p (units x) → (Whole x (end x) p) × (is_extractor x p ≡ true → size x p ≡ extractor_size x.length_size)
    found p m =
        let r = rules e in
        units_from x p m
        (λ k. (r.tops p k, r.extractors p k))
        (λ o k t h. let i = r.inside o p k t h in (whole_wider x (next x o) (end x) p (whole_end x (end x) o (r.tops o k)).1 i.unit, i.extractor))

    pub unit_whole : (p : ℕ) → Memᴰ p (units x) → Whole x (end x) p
    unit_whole p m = (found p m).0

    pub unit_inside : (p : ℕ) → Memᴰ p (units x) → (p < end x) × (next x p ≤ end x)
    unit_inside p m = whole_end x (end x) p (unit_whole p m)

    pub extractor_step : (p : ℕ) → Memᴰ p (extractors x) → extractor_at x (end x) p ≡ Some (extractor_of x p)
    unfolding extractors
    extractor_step p m = let k = keep_from (is_extractor x) (units x) m in let f = found p k.0 in extractor_there x (end x) p f.0 k.1 (extractor_none x p f.1)

  -- the places of all units rise, whatever stands in them
  pub units_rise : Rising ◌<◌ (units x)
  units_rise = walks.units_rise x

  pub check_refusals : (n p : ℕ) → check x ≡ refused n p → SampleRefusal x.content n p
  unfolding check
  check_refusals n p e = by_verdict (top_verdict x)
      (λ a b v. let w = first_from (top_judge x) (top_units x) (v ∙ (rw v at e)) in
      sample_refusal x (unit_fault x (end x) w.0) w.0 (unit_form x (end x) w.0) (in_top x w.0 w.1) w.2)
      (λ v. let w = first_from (content_verdict x) (top_units x) (rw v at e) in content_refusal x (top_whole x v) w.0 n p w.1 w.2)

refusal_of_lem : (k : Option Kind) (l : Option LengthSize) (s : List ℕ) (n p : ℕ) → check_of k l s ≡ refused n p → AloneRefusal s n p
refusal_of_lem None l s n p e = let m : n ≡ unknown_kind = cc in inl (Memᴰ.head m, cc)
refusal_of_lem (Some k) None s n p e = let m : n ≡ bad_length_size = cc in inl (Memᴰ.tail (Memᴰ.head m), cc)
refusal_of_lem (Some k) (Some l) s n p e = inr (check_refusals (record { kind = k; length_size = l; content = s }) n p e)

pub alone_refusals : (k l : ℕ) (s : List ℕ) (n p : ℕ) → check_alone k l s ≡ refused n p → AloneRefusal s n p
alone_refusals k l s n p e = refusal_of_lem (kind_of k) (length_size_of l) s n p e
