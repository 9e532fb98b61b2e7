-- The proofs of what Request11 says of the units of a damaged sample. Assumes nothing.
--
--   stops                        where the first top-level fault is
--   inside_fault, sound_at       the inside fault of a unit, and none
--   cover_before, before_cover   what an aggregator covers, by the cut sample
--   becomes                      what becomes of a unit
--   dropped_faulty, zeroed_only  a unit that is dropped, and one whose additional_bytes become 0
use Prim.Native.Nat.{ℕ, ◌+◌, ◌*◌, ◌≤◌, ◌<◌}
use mathlib.Core.Path.{◌≡◌, sym, ◌∙◌, subst}
use mathlib.Core.Bool.{true, false, ◌&&◌, not}
use mathlib.Core.Logic.{◌⊎◌, inl, inr, ⊎_elim}
use native.Mathlib.Omega.{arith}
use borrow.Author.Tests.{eqb-true, eqb-false, eq-eqb, lt-ltb, ltb-true, le-leb, not-true}
use Rattle.words.specs.Tests.{◌<?◌, ◌≡?◌}
use Rattle.words.specs.Refusals.{refused, ok, ◌at_place◌, first}
use lib.ListN.{length}
use Rattle.words.specs.Bytes.{byte_at}
use Rattle.words.specs.Lists.{◌∈◌, some}
use Rattle.words.proofs.Tests.{by_bool, true_false, and_both}
use Rattle.words.proofs.Refusals.{at_from, at_ok, by_verdict}
use Rattle.words.proofs.Lists.{keep_from, keep_mem}
use Rattle.words.proofs.Kept.{some_false}
use Rattle.numbers.specs.Sizes.{extractor_size}
use Rattle.units.specs.Units.{Sample, L, end, size, type, next, is_aggregator, is_extractor, unit_fault, top_units, top_between}
use Rattle.units.specs.Extractors.{extractor_fault}
use Rattle.units.specs.Aggregators.{included, included_fault, additional_bytes, cover_end, cover_fault}
use Rattle.units.proofs.Units.{extractor_size_lem}
use Rattle.samples.specs.Check.{inside_verdict, top_verdict}
use Rattle.samples.proofs.Walks.{included_judge}
use Rattle.salvage_rules.specs.declared.Fate.TheVariants.{Kept, Dropped, Zeroed}
use Rattle.salvage_rules.specs.Salvage.{is_dropped, loses_cover, fate, first_fault, cut, whole_units, unit_bytes, zeroed_bytes}
use Rattle.salvage_rules.proofs.Units.{by_fate, dropped_from, zeroed_from, inside_ok, cover_kept}
use Rattle.salvage_rules.proofs.Cut.{fault_some, fault_none, cut_end, cut_wholes, cut_units, cut_next, cut_type, cut_additional, cut_inside}
use Rattle.salvage_rules.proofs.Reasons.{loses_aggregator, Uncovered, uncovered, zeroed_some}
use Rattle.salvage_rules.proofs.Promises.{zeroed_size, zeroed_same}
use Rattle.promise_rules.specs.Samples.{UnitAt, IncludedAt, CoverAt}
use Rattle.promise_rules.specs.SampleFaults.{UnitFault, IncludedFault}
use Rattle.promise_rules.specs.Salvaging.{StopsAt, InsideFault, SoundAt, Covered, CoverBefore, Becomes}
use Rattle.promise_rules.proofs.FirstLaws.{first_fault_lem}
use Rattle.promise_rules.proofs.SampleLaws.{cover_at, at_cover, all_included, tops_at}
use Rattle.promise_rules.proofs.SampleFaultLaws.{unit_judged, included_judged}

module _ (x : Sample) where
  pub stops : StopsAt x (first_fault x)
  stops = by_verdict (top_verdict x)
      (λ n p v.
      let w = first_fault_lem (unit_fault x (end x)) (λ q. q) (UnitAt x (end x)) (UnitFault x (end x)) (top_units x) (λ q k. unit_judged x (end x) q) v in
      subst (StopsAt x) (w.3 ∙ sym (fault_some x n p v).0) (StopsAt.fault w.1 w.2))
      (λ v. subst (StopsAt x) (sym (fault_none x v)) (StopsAt.none (tops_at x v)))

  -- the inside fault of a unit
  module _ (p : ℕ) where
    other_type : is_aggregator x p ≡ false → type x p ≡ 30 → ⊥
    other_type t e = true_false _ (eq-eqb (type x p) 30 e) t

    extractor_bad : 0 < extractor_fault x p → (type x p ≡ 31) × (size x p ≡ 6 + 2 * L x → ⊥) × (extractor_fault x p ≡ 22)
    extractor_bad h = by_bool (is_extractor x p && not (size x p ≡? extractor_size x.length_size))
        (λ c. let i = and_both (is_extractor x p) (not (size x p ≡? extractor_size x.length_size)) c in
        (eqb-true _ _ i.0, eqb-false _ _ (not-true _ i.1), rw c))
        (λ c. let z : 0 < 0 = rw c at h in absurd (omega arith))

    pub inside_fault : {m q : ℕ} → inside_verdict x p ≡ refused m q → InsideFault x p m q
    inside_fault {m} {q} v = by_bool (is_aggregator x p)
        (λ t.
        let w = first_fault_lem (included_fault x (next x p)) (λ r. r) (IncludedAt x (next x p)) (IncludedFault x (next x p)) (included x p) (λ r i. included_judged x (next x p) r) (aggregator t) in
        subst (InsideFault x p m) w.3 (InsideFault.included (eqb-true _ _ t) w.1 w.2))
        (λ t.
        let a = at_from (extractor_fault x p) p (other t) in
        let i = extractor_bad a.2 in
        subst (InsideFault x p m) a.1 (subst (λ (k : ℕ). InsideFault x p k p) (sym i.2 ∙ a.0) (InsideFault.extractor i.0 i.1)))
      where
        aggregator : is_aggregator x p ≡ true → first (included_judge x (next x p)) (included x p) ≡ refused m q
        aggregator t = unfold inside_verdict in rw t at v

        other : is_aggregator x p ≡ false → extractor_fault x p at_place p ≡ refused m q
        other t = unfold inside_verdict in rw t at v

    pub sound_at : inside_verdict x p ≡ ok tt → SoundAt x p
    sound_at v = by_bool (is_aggregator x p)
        (λ t. record {
          inside = λ e. all_included x p (aggregator t);
          extractor = λ e. let z = eqb-true (type x p) 30 t in absurd (omega arith);
        })
        (λ t. record {
          inside = λ e. absurd (other_type t e);
          extractor = λ e. extractor_size_lem x p (at_ok _ p (other t)) (eq-eqb (type x p) 31 e);
        })
      where
        aggregator : is_aggregator x p ≡ true → first (included_judge x (next x p)) (included x p) ≡ ok tt
        aggregator t = unfold inside_verdict in rw t at v

        other : is_aggregator x p ≡ false → extractor_fault x p at_place p ≡ ok tt
        other t = unfold inside_verdict in rw t at v

  -- the units of the cut sample are those before the fault
  pub in_whole : (q : ℕ) → q ∈ whole_units x → (q ∈ top_units x) × (q < first_fault x)
  in_whole q m = let k = keep_from (λ p. p <? first_fault x) (top_units x) (rw (cut_units x) at m) in (k.0, ltb-true _ _ k.1)

  whole_in : (q : ℕ) → q ∈ top_units x → q < first_fault x → q ∈ whole_units x
  whole_in q m h = rw (cut_units x) (keep_mem (λ p. p <? first_fault x) (top_units x) m (lt-ltb _ _ h))

  is_dropped_lem : (q : ℕ) → q ∈ whole_units x → fate (cut x) q ≡ Dropped → (m : ℕ) × (r : ℕ) × InsideFault x q m r
  is_dropped_lem q k e = by_verdict (inside_verdict x q)
      (λ m r v. (m, r, inside_fault q v))
      (λ v. true_false _ (dropped_from (cut x) q e) (passes v))
    where
      passes : inside_verdict x q ≡ ok tt → is_dropped (cut x) q ≡ false
      passes v = unfold is_dropped in rw (cut_inside x q k, v)

  is_sound : (q : ℕ) → q ∈ whole_units x → is_dropped (cut x) q ≡ false → SoundAt x q
  is_sound q k d = sound_at q (sym (cut_inside x q k) ∙ inside_ok (cut x) q d)

  -- what an aggregator covers
  module _ (p : ℕ) (m : p ∈ whole_units x) (t : is_aggregator x p ≡ true) where
    cut_cover : cover_end (cut x) p ≡ next x p + additional_bytes x p
    cut_cover = let a = cut_next x p m in let b = cut_additional x p m t in omega arith

    before_cover : CoverBefore x (first_fault x) p → CoverAt (cut x) p
    before_cover w = record {
      ends = ⊎_elim
          (λ e. inl (cut_cover ∙ e ∙ sym (cut_end x)))
          (λ k. inr (rw cut_cover (whole_in _ k.0 k.1)))
          w.border;
      clear = λ q k a l i. let j = in_whole q k in
          let n = cut_next x p m in let c = cut_cover in
          w.clear q (record { aggregator = eqb-true _ _ t; unit = j.0; from = omega arith; before = omega arith }) (sym (cut_type x q k) ∙ i);
    }

    cover_before : CoverAt (cut x) p → CoverBefore x (first_fault x) p
    cover_before w = record {
      border = ⊎_elim
          (λ e. inl (sym cut_cover ∙ e ∙ cut_end x))
          (λ k. inr (in_whole _ (subst (λ (z : ℕ). z ∈ whole_units x) cut_cover k)))
          w.ends;
      clear = λ q c i. let n = cut_next x p m in let a = cut_cover in
          let k = whole_in q c.unit (covered_in c) in
          w.clear q k (let f = c.from in omega arith) (let f = c.before in omega arith) (cut_type x q k ∙ i);
    }
      where
        covered_most : next x p + additional_bytes x p ≤ first_fault x
        covered_most = ⊎_elim
            (λ e. let a = cut_cover in let b = cut_end x in omega arith)
            (λ k. let j = (in_whole _ (subst (λ (z : ℕ). z ∈ whole_units x) cut_cover k)).1 in omega arith)
            w.ends

        covered_in : {q : ℕ} → Covered x p q → q < first_fault x
        covered_in c = let f = c.before in let g = covered_most in omega arith

    -- a unit that it covers, before the fault
    covered_between : (q : ℕ) → q ∈ whole_units x → Covered x p q → q ∈ top_between (cut x) (next (cut x) p) (cover_end (cut x) p)
    unfolding top_between
    covered_between q k c = let n = cut_next x p m in let a = cut_cover in let f = c.from in let g = c.before in
        keep_mem _ (top_units (cut x)) k (rw (le-leb (next (cut x) p) q (omega arith), lt-ltb q (cover_end (cut x) p) (omega arith)))

  module _ (p : ℕ) (m : p ∈ whole_units x) where
    same_aggregator : is_aggregator (cut x) p ≡ true → is_aggregator x p ≡ true
    same_aggregator t = rw (← cut_type x p m) t

    aggregator_same : is_aggregator x p ≡ true → is_aggregator (cut x) p ≡ true
    aggregator_same t = rw (cut_type x p m) t

    zeroed_why : is_dropped (cut x) p ≡ false → loses_cover (cut x) p ≡ true → Becomes x (first_fault x) p Zeroed
    zeroed_why d l =
        let t = same_aggregator (loses_aggregator (cut x) p l) in
        why t (uncovered (cut x) p l)
      where
        why : is_aggregator x p ≡ true → Uncovered (cut x) p → Becomes x (first_fault x) p Zeroed
        why t (Uncovered.bad e) = Becomes.uncovers (is_sound p m d) (eqb-true _ _ t) (λ w. let z = at_cover (cut x) p (before_cover p m t w) in absurd (omega arith))
        why t (Uncovered.lost q k a b e) =
            let i = is_dropped_lem q k e in
            let j = in_whole q k in
            let n = cut_next x p m in let c = cut_cover p m t in
            Becomes.loses q i.0 i.1 (is_sound p m d) (record { aggregator = eqb-true _ _ t; unit = j.0; from = omega arith; before = omega arith }) j.1 i.2

    kept_why : is_dropped (cut x) p ≡ false → loses_cover (cut x) p ≡ false → Becomes x (first_fault x) p Kept
    kept_why d l = Becomes.keeps (is_sound p m d) (λ e. cover (eq-eqb (type x p) 30 e)) (λ q c. spared q c)
      where
        kept_by : is_aggregator x p ≡ true → (cover_fault (cut x) p ≡ 0) × (some (is_dropped (cut x)) (top_between (cut x) (next (cut x) p) (cover_end (cut x) p)) ≡ false)
        kept_by t = cover_kept (cut x) p l (aggregator_same t)

        cover : is_aggregator x p ≡ true → CoverBefore x (first_fault x) p
        cover t = cover_before p m t (cover_at (cut x) p (kept_by t).0)

        spared : (q : ℕ) → Covered x p q → SoundAt x q
        spared q c =
            let t = eq-eqb (type x p) 30 c.aggregator in
            let b = (cover t).border in
            let f = c.before in
            let k = whole_in q c.unit (⊎_elim (λ e. omega arith) (λ e. let g = e.1 in omega arith) b) in
            is_sound q k (some_false (is_dropped (cut x)) (top_between (cut x) (next (cut x) p) (cover_end (cut x) p)) (kept_by t).1 q (covered_between p m t q k c))

    pub becomes : Becomes x (first_fault x) p (fate (cut x) p)
    becomes = by_fate (cut x) p
        (λ d e. let i = is_dropped_lem p m e in rw e (Becomes.faulty i.0 i.1 i.2))
        (λ d l e. rw e (zeroed_why d l))
        (λ d l e. rw e (kept_why d l))

  pub dropped_faulty : (p : ℕ) → p ∈ whole_units x → fate (cut x) p ≡ Dropped → (m : ℕ) × (q : ℕ) × InsideFault x p m q
  dropped_faulty = is_dropped_lem

  pub zeroed_only :
      (p : ℕ) → p ∈ whole_units x → fate (cut x) p ≡ Zeroed → (type x p ≡ 30) × (0 < additional_bytes x p)
      × (length (zeroed_bytes x p) ≡ length (unit_bytes x p))
      × ((i : ℕ) → (i < L x + 4) ⊎ (L x + 4 + L x ≤ i) → byte_at (zeroed_bytes x p) i ≡ byte_at (unit_bytes x p) i)
  zeroed_only p m z =
      let l = (zeroed_from (cut x) p z).1 in
      let t = same_aggregator p m (loses_aggregator (cut x) p l) in
      let a = zeroed_some (cut x) p l (cut_wholes x) m in
      let b = cut_additional x p m t in
      (eqb-true _ _ t, omega arith, zeroed_size x p m z, zeroed_same x p m z)
