-- The proofs of what Demands and Request04 say of a copy. Assumes nothing.
--
--   starts_of, of_starts          where a copy may start, both ways
--   copy_ends_lem, ends_copy      where it ends, both ways
--   among_of, of_among            that it starts and ends on borders of the same units, both ways
--   copied_inside, inside_copied  the units in it, both ways
--   copy_of, of_copy              a copy without a fault, both ways
--   by_copy                       the fault of a copy of a well-formed sample, by cases
--   fault_26, fault_27, fault_28  when it is each of these
use Prim.Native.Nat.{ℕ, ◌≤◌, ◌<◌}
use mathlib.Core.Path.{◌≡◌, ap, sym, ◌∙◌, subst}
use mathlib.Core.Bool.{Bool, true, false, not, ◌&&◌}
use mathlib.Core.List.{List}
use mathlib.Core.Logic.{◌↔◌}
use native.Mathlib.Omega.{arith}
use native.Mathlib.Nat.{pos_of_ne-zero}
use borrow.Author.Tests.{leb-true, le-leb, lt-ltb, ltb-true, eqb-true, eqb-false, ne_eqb, eq-eqb}
use Rattle.words.specs.Tests.{◌≤?◌, ◌<?◌, ◌≡?◌}
use Rattle.words.specs.Refusals.{ok, ◌if◌}
use Rattle.words.specs.Lists.{◌∈◌, keep, some}
use Rattle.words.proofs.Tests.{by_bool, and_both, true_false}
use Rattle.words.proofs.Lists.{keep_mem, keep_from, some_from, is_or_from, is_or_mem}
use Rattle.words.proofs.Kept.{some_false}
use Rattle.units.specs.Units.{Sample, type, next, is_aggregator, is_extractor}
use Rattle.units.specs.Aggregators.{included, units}
use Rattle.units.proofs.Walks.{units_top, units_included, units_from}
use Rattle.samples.specs.Check.{check}
use Rattle.copies.specs.Copies.{without_aggregators, copy_starts, copy_end, copy_ends, copied, border_fault, copy_fault}
use Rattle.copies.proofs.Copied.{copy_rules, rules_copy, copied_exact, copied_unit_lem}
use Rattle.copies.proofs.Copies.{starts_unit, unit_starts, ends_top, ends_included}
use Rattle.promise_rules.proofs.SampleLaws.{formed_rules, rules_formed, border_at, at_border}
use Rattle.promise_rules.specs.Samples.{Formed}
use Rattle.promise_rules.specs.Resolving.{CopyStarts, CopyEnds, CopyAmong, CopyOf}

module _ (z : Sample) (o : ℕ) where
  pub starts_of : copy_starts z o ≡ true → CopyStarts z o
  starts_of s = units_from z o (starts_unit z o s) CopyStarts.top (λ p m t j. CopyStarts.inside p m (eqb-true _ _ t) j)

  pub of_starts : CopyStarts z o → copy_starts z o ≡ true
  of_starts (CopyStarts.top m) = unit_starts z o (units_top z o m)
  of_starts (CopyStarts.inside p m t j) = unit_starts z o (units_included z p o m (eq-eqb (type z p) 30 t) j)

  among_starts : {e : ℕ} → CopyAmong z o e → CopyStarts z o
  among_starts (CopyAmong.top m b) = CopyStarts.top m
  among_starts (CopyAmong.inside p m t j b) = CopyStarts.inside p m t j

module _ (z : Sample) (o n : ℕ) where
  pub copy_ends_lem : CopyEnds z o n (copy_end z o n)
  unfolding copy_end
  copy_ends_lem = by_bool (n ≡? 0)
      (λ t. by_bool (is_aggregator z o)
      (λ a. rw (t, a) (CopyEnds.aggregator (eqb-true _ _ t) (eqb-true _ _ a)))
      (λ a. rw (t, a) (CopyEnds.unit (eqb-true _ _ t) (eqb-false _ _ a))))
      (λ t. rw t (CopyEnds.span (pos_of_ne-zero (eqb-false _ _ t))))

  pub ends_copy : (e : ℕ) → CopyEnds z o n e → copy_end z o n ≡ e
  unfolding copy_end
  ends_copy e (CopyEnds.unit h t) = rw (eq-eqb n 0 h, ne_eqb (type z o) 30 t)
  ends_copy e (CopyEnds.aggregator h t) = rw (eq-eqb n 0 h, eq-eqb (type z o) 30 t)
  ends_copy e (CopyEnds.span h) = rw (ne_eqb n 0 (λ q. absurd (omega arith)))

  pub among_of : copy_starts z o ≡ true → copy_ends z o n ≡ true → CopyAmong z o (copy_end z o n)
  among_of s e = units_from z o (starts_unit z o s)
      (λ m. CopyAmong.top m (border_at z (copy_end z o n) (sym (ends_top z o n m) ∙ e)))
      (λ p m t j. CopyAmong.inside p m (eqb-true _ _ t) j (is_or_from (copy_end z o n) (next z p) (included z p) (sym (ends_included z o n p m t j) ∙ e)))

  pub of_among : CopyAmong z o (copy_end z o n) → (copy_starts z o ≡ true) × (copy_ends z o n ≡ true)
  of_among (CopyAmong.top m b) = (unit_starts z o (units_top z o m), ends_top z o n m ∙ at_border z (copy_end z o n) b)
  of_among (CopyAmong.inside p m t j b) =
      let a = eq-eqb (type z p) 30 t in
      (unit_starts z o (units_included z p o m a j), ends_included z o n p m a j ∙ is_or_mem (copy_end z o n) (next z p) (included z p) b)

  -- a copied unit lies in the copy
  pub copied_inside : (q : ℕ) → q ∈ copied z o n → (q ∈ units z) × (o ≤ q) × (q < copy_end z o n)
  copied_inside q m =
      let i = keep_from (λ j. (o ≤? j) && (j <? copy_end z o n)) (without_aggregators z (units z)) (rw (copied_exact z o n) at m) in
      let a = and_both (o ≤? q) (q <? copy_end z o n) i.1 in
      ((copied_unit_lem z o n q m).0, leb-true _ _ a.0, ltb-true _ _ a.1)

  pub inside_copied : (q : ℕ) → q ∈ units z → (type z q ≡ 30 → ⊥) → o ≤ q → q < copy_end z o n → q ∈ copied z o n
  inside_copied q m t a b = rw (copied_exact z o n) (keep_mem (λ j. (o ≤? j) && (j <? copy_end z o n)) (without_aggregators z (units z))
      (keep_mem (λ j. not (is_aggregator z j)) (units z) m (rw (ne_eqb (type z q) 30 t))) (rw (le-leb o q a, lt-ltb q (copy_end z o n) b)))

  pub copy_of : copy_fault z o n ≡ 0 → CopyOf z o n (copied z o n)
  copy_of e =
      let c = copy_rules z o n e in
      record {
        formed = formed_rules z c.formed;
        end = copy_end z o n;
        ends = copy_ends_lem;
        among = among_of c.starts c.ends;
        units = copied_exact z o n;
        no_extractor = λ q m. eqb-false _ _ (c.no_extractor q m);
      }

  pub of_copy : (qs : List ℕ) → CopyOf z o n qs → (copy_fault z o n ≡ 0) × (copied z o n ≡ qs)
  of_copy qs w =
      let e = ends_copy w.end w.ends in
      let b = of_among (rw e w.among) in
      let c : copied z o n ≡ qs = copied_exact z o n ∙ ap (λ (j : ℕ). keep (λ q. (o ≤? q) && (q <? j)) (without_aggregators z (units z))) e ∙ sym w.units in (
        rules_copy z o n (record {
          formed = rules_formed z w.formed;
          starts = b.0;
          ends = b.1;
          no_extractor = λ q m. ne_eqb _ _ (w.no_extractor q (subst (λ (l : List ℕ). q ∈ l) c m));
        }),
        c,
      )

  -- the fault of a copy of a well-formed sample, by cases
  fault_start : check z ≡ ok tt → copy_starts z o ≡ false → copy_fault z o n ≡ 26
  unfolding copy_fault border_fault
  fault_start v s = rw (v, s)

  fault_end : check z ≡ ok tt → copy_starts z o ≡ true → copy_ends z o n ≡ false → copy_fault z o n ≡ 27
  unfolding copy_fault border_fault
  fault_end v s e = rw (v, s, e)

  fault_chain : {b : Bool} → check z ≡ ok tt → copy_starts z o ≡ true → copy_ends z o n ≡ true → some (is_extractor z) (copied z o n) ≡ b → copy_fault z o n ≡ (28 if b)
  unfolding copy_fault border_fault
  fault_chain v s e x = rw (v, s, e, x)

  module _ (f : Formed z) where
    pub by_copy : {G : Type 0} →
        ((CopyStarts z o → ⊥) → copy_fault z o n ≡ 26 → G) →
        (CopyStarts z o → (CopyAmong z o (copy_end z o n) → ⊥) → copy_fault z o n ≡ 27 → G) →
        (CopyAmong z o (copy_end z o n) → (q : ℕ) → q ∈ copied z o n → type z q ≡ 31 → copy_fault z o n ≡ 28 → G) →
        (CopyAmong z o (copy_end z o n) → ((q : ℕ) → q ∈ copied z o n → type z q ≡ 31 → ⊥) → copy_fault z o n ≡ 0 → G) → G
    by_copy start end chain good =
        let v = rules_formed z f in
        by_bool (copy_starts z o)
        (λ s. by_bool (copy_ends z o n)
        (λ e. by_bool (some (is_extractor z) (copied z o n))
        (λ x. let w = some_from (is_extractor z) (copied z o n) x in chain (among_of s e) w.0 w.1 (eqb-true _ _ w.2) (fault_chain v s e x))
        (λ x. good (among_of s e) (λ q m t. true_false _ (eq-eqb _ _ t) (some_false (is_extractor z) (copied z o n) x q m)) (fault_chain v s e x)))
        (λ e. end (starts_of z o s) (λ a. true_false _ (of_among a).1 e) (fault_end v s e)))
        (λ s. start (λ w. true_false _ (of_starts z o w) s) (fault_start v s))

    pub fault_26 : (copy_fault z o n ≡ 26) ↔ (CopyStarts z o → ⊥)
    fault_26 = (
      λ e. by_copy (λ no i. no) (λ s no i. absurd (omega arith)) (λ a q m t i. absurd (omega arith)) (λ a no i. absurd (omega arith)),
      λ no. by_copy (λ s i. i) (λ s a i. absurd (no s)) (λ a q m t i. absurd (no (among_starts z o a))) (λ a x i. absurd (no (among_starts z o a))),
    )

    pub fault_27 : CopyStarts z o → (copy_fault z o n ≡ 27) ↔ (CopyAmong z o (copy_end z o n) → ⊥)
    fault_27 s = (
      λ e. by_copy (λ no i. absurd (no s)) (λ s no i. no) (λ a q m t i. absurd (omega arith)) (λ a no i. absurd (omega arith)),
      λ no. by_copy (λ n i. absurd (n s)) (λ s a i. i) (λ a q m t i. absurd (no a)) (λ a x i. absurd (no a)),
    )

    pub fault_28 : CopyAmong z o (copy_end z o n) → (copy_fault z o n ≡ 28) ↔ ((q : ℕ) × (q ∈ copied z o n) × (type z q ≡ 31))
    fault_28 a = (
      λ e. by_copy (λ no i. absurd (no (among_starts z o a))) (λ s no i. absurd (no a)) (λ b q m t i. (q, m, t)) (λ b no i. absurd (omega arith)),
      λ w. by_copy (λ no i. absurd (no (among_starts z o a))) (λ s no i. absurd (no a)) (λ b q m t i. i) (λ b no i. absurd (no w.0 w.1 w.2)),
    )
