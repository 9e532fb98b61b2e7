-- The proofs of what Request04 says. Assumes nothing.
use Prim.Native.Nat.{ℕ, ◌+◌, ◌≤◌, ◌<◌}
use mathlib.Core.Path.{◌≡◌, refl, ap, sym, ◌∙◌, subst}
use mathlib.Core.Bool.{true, ◌&&◌}
use mathlib.Core.List.Memᴰ
use mathlib.Core.List.{List, [], ◌∷◌}
use mathlib.Core.Logic.{inl, inr, ⊎_elim, ◌↔◌}
use native.Mathlib.Omega.{arith}
use native.Mathlib.Nat.{pos_of_ne-zero}
use borrow.Author.Tests.{eqb-true, eqb-false, eq-eqb}
use Rattle.words.specs.Tests.{◌≤?◌, ◌<?◌, ◌≡?◌}
use Rattle.words.specs.Refusals.{ok}
use Rattle.words.specs.Bytes.{Bytes}
use Rattle.words.specs.Lists.{◌∈◌, keep, some}
use Rattle.words.proofs.Tests.{by_bool}
use Rattle.words.proofs.Lists.{keep_from}
use Rattle.units.specs.Units.{Sample, type, next, is_aggregator, top_units}
use Rattle.units.specs.Extractors.{track_ref_index, sample_offset, data_offset, data_length}
use Rattle.units.specs.Aggregators.{included, units}
use Rattle.units.proofs.Walks.{units_included}
use Rattle.samples.specs.Check.{check}
use Rattle.bundles.specs.Recordings.{Recording, sample_count}
use Rattle.bundles.specs.Readers.{first_layout}
use Rattle.copies.specs.Copies.{without_aggregators, copy_end, copied, copy_fault}
use Rattle.copies.proofs.Runs.{in_holder, top_apart, aggregator_one}
use Rattle.copies.proofs.Copies.{top_ends, end_length, end_unit, end_zero}
use Rattle.copies.proofs.Copied.{copied_exact}
use Rattle.copies.proofs.Included.{included_unit, included_part, included_one}
use Rattle.resolution_rules.specs.Resolving.{sample_of}
use Rattle.promise_rules.specs.Samples.{BorderAt, BorderIn, Formed}
use Rattle.promise_rules.specs.Resolving.{NamedBy, CopyStarts, CopyEnds, CopyAmong, CopyOf}
use Rattle.promise_rules.specs.Copies.{TopCopy, IncludedEnds, IncludedCopy}
use Rattle.promise_rules.specs.Refused.{ExtractorFault}
use Rattle.promise_rules.proofs.SampleLaws.{formed_rules, rules_formed}
use Rattle.promise_rules.proofs.CallLaws.{rise, offset_byte}
use Rattle.promise_rules.proofs.FaultLaws.{copy_fault_is}
use Rattle.promise_rules.proofs.CopyLaws.{of_starts, copy_ends_lem, ends_copy, among_of, copied_inside, inside_copied, copy_of, of_copy, by_copy, fault_26, fault_27, fault_28}

module _ (z : Sample) (p o : ℕ) (m : p ∈ top_units z) (j : o ∈ included z p) where
  pub starts_apart : (o ∈ top_units z → ⊥) × ((a : ℕ) → a ∈ top_units z → o ∈ included z a → a ≡ p)
  starts_apart = (top_apart z p o m j, λ a k i. aggregator_one z a p o k m i j)

-- a copy, by what the code decides
module _ (z : Sample) (o n : ℕ) where
  pub copy_exactly : (qs : List ℕ) → ((copy_fault z o n ≡ 0) × (copied z o n ≡ qs)) ↔ CopyOf z o n qs
  copy_exactly qs = (λ w. subst (CopyOf z o n) w.1 (copy_of z o n w.0), of_copy z o n qs)

  module _ (f : Formed z) where
    -- what data_length 0 takes ends on a border
    zero_among : CopyStarts z o → n ≡ 0 → CopyAmong z o (copy_end z o n)
    zero_among s e = among_of z o n (of_starts z o s) (end_zero z (rules_formed z f) o n (of_starts z o s) e)

    -- 27, where B are the borders that the copy may end on
    fault_by : (B : ℕ → Type 0) → CopyStarts z o → ((e : ℕ) → CopyAmong z o e → B e) → ((e : ℕ) → B e → CopyAmong z o e) → (copy_fault z o n ≡ 27) ↔ ((0 < n) × (B (o + n) → ⊥))
    fault_by B s to from = (
      λ e. by_bool (n ≡? 0)
          (λ t. absurd ((fault_27 z o n f s).0 e (zero_among s (eqb-true _ _ t))))
          (λ t. (pos_of_ne-zero (eqb-false _ _ t), λ b. (fault_27 z o n f s).0 e (from (copy_end z o n) (subst B (sym (end_length z o n (eqb-false _ _ t))) b)))),
      λ w. (fault_27 z o n f s).1 (λ a. w.1 (subst B (end_length z o n (λ e. let h = w.0 in absurd (omega arith))) (to (copy_end z o n) a))),
    )

  -- from a top-level unit
  module _ (m : o ∈ top_units z) where
    top_border : (e : ℕ) → CopyAmong z o e → BorderAt z e
    top_border e (CopyAmong.top k b) = b
    top_border e (CopyAmong.inside p k t j b) = absurd (top_apart z p o k j m)

    pub top_copy : (qs : List ℕ) → CopyOf z o n qs ↔ TopCopy z o n qs
    top_copy qs = (
      λ w. record { formed = w.formed; end = w.end; ends = w.ends; border = top_border w.end w.among; units = w.units; no_extractor = w.no_extractor },
      λ w. record { formed = w.formed; end = w.end; ends = w.ends; among = CopyAmong.top m w.border; units = w.units; no_extractor = w.no_extractor },
    )

    module _ (f : Formed z) where
      pub top_27 : (copy_fault z o n ≡ 27) ↔ ((0 < n) × (BorderAt z (o + n) → ⊥))
      top_27 = fault_by f (BorderAt z) (CopyStarts.top m) top_border (λ e b. CopyAmong.top m b)

      pub top_inside : (p : ℕ) → p ∈ top_units z → o + n ∈ included z p → copy_fault z o n ≡ 27
      top_inside p k j = top_27.1 (
        by_bool (n ≡? 0)
            (λ t. let e : n ≡ 0 = eqb-true _ _ t in let i : o + n ≡ o = omega arith in absurd (top_apart z p o k (rw i at j) m))
            (λ t. pos_of_ne-zero (eqb-false _ _ t)),
        λ b. ⊎_elim
            (λ e. let i = in_holder z p (o + n) j in let l = top_ends z (rules_formed z f) p k in absurd (omega arith))
            (λ u. top_apart z p (o + n) k j u)
            b,
      )

-- from a unit that the aggregator at p includes
module _ (z : Sample) (p o : ℕ) (m : p ∈ top_units z) (t : type z p ≡ 30) (j : o ∈ included z p) where
  aggregator : is_aggregator z p ≡ true
  aggregator = eq-eqb (type z p) 30 t

  starts : CopyStarts z o
  starts = CopyStarts.inside p m t j

  among_in : (e : ℕ) → CopyAmong z o e → BorderIn z p e
  among_in e (CopyAmong.top k b) = absurd (top_apart z p o m j k)
  among_in e (CopyAmong.inside a k u i b) = subst (λ (q : ℕ). BorderIn z q e) (aggregator_one z a p o k m i j) b

  in_most : (e : ℕ) → BorderIn z p e → e ≤ next z p
  in_most e b = ⊎_elim (λ i. omega arith) (λ k. let i = in_holder z p e k in omega arith) b

  module _ (k : check z ≡ ok tt) (n : ℕ) where
    flat : type z o ≡ 30 → ⊥
    flat = eqb-false _ _ (included_unit z k p m aggregator o j).1

    ends_in : (e : ℕ) → CopyEnds z o n e → IncludedEnds z o n e
    ends_in e (CopyEnds.unit h u) = inl (h, refl)
    ends_in e (CopyEnds.aggregator h u) = absurd (flat u)
    ends_in e (CopyEnds.span h) = inr (h, refl)

    in_ends : (e : ℕ) → IncludedEnds z o n e → CopyEnds z o n e
    in_ends e (inl w) = subst (CopyEnds z o n) (sym w.1) (CopyEnds.unit w.0 flat)
    in_ends e (inr w) = subst (CopyEnds z o n) (sym w.1) (CopyEnds.span w.0)

    part : (e : ℕ) → BorderIn z p e → keep (λ q. (o ≤? q) && (q <? e)) (without_aggregators z (units z)) ≡ keep (λ q. (o ≤? q) && (q <? e)) (included z p)
    part e b = included_part z k p m aggregator o j e (in_most e b)

  pub included_copy : (n : ℕ) (qs : List ℕ) → CopyOf z o n qs ↔ IncludedCopy z p o n qs
  included_copy n qs = (
    λ w.
        let k = rules_formed z w.formed in
        let b = among_in w.end w.among in
        record { formed = w.formed; end = w.end; ends = ends_in k n w.end w.ends; border = b; units = w.units ∙ part k n w.end b; no_extractor = w.no_extractor },
    λ w.
        let k = rules_formed z w.formed in
        record {
          formed = w.formed;
          end = w.end;
          ends = in_ends k n w.end w.ends;
          among = CopyAmong.inside p m t j w.border;
          units = w.units ∙ sym (part k n w.end w.border);
          no_extractor = w.no_extractor;
        },
  )

  -- data_length 0: that unit
  pub included_zero : (qs : List ℕ) → CopyOf z o 0 qs ↔ (Formed z × (qs ≡ o ∷ []) × (type z o ≡ 31 → ⊥))
  included_zero qs = (
    λ w.
        let c = (included_copy 0 qs).0 w in
        let k = rules_formed z c.formed in
        let e : qs ≡ o ∷ [] = c.units ∙ ap (λ (i : ℕ). keep (λ q. (o ≤? q) && (q <? i)) (included z p)) (zero_end c.end c.ends) ∙ included_one z k p m aggregator o j in
        (c.formed, e, c.no_extractor o (rw e (Memᴰ.head refl))),
    λ w.
        let k = rules_formed z w.0 in
        (included_copy 0 qs).1
        (record {
          formed = w.0;
          end = next z o;
          ends = inl (refl, refl);
          border = next_in k;
          units = w.1 ∙ sym (included_one z k p m aggregator o j);
          no_extractor = λ q i. subst (λ (r : ℕ). type z r ≡ 31 → ⊥) (sym (Memᴰ.eq_of_singleton (rw w.1 at i))) w.2;
        }),
  )
    where
      zero_end : (e : ℕ) → IncludedEnds z o 0 e → e ≡ next z o
      zero_end e (inl w) = w.1
      zero_end e (inr w) = let h = w.0 in absurd (omega arith)

      next_in : check z ≡ ok tt → BorderIn z p (next z o)
      next_in k = among_in (next z o) (rw (end_unit z o 0 refl (included_unit z k p m aggregator o j).1) at (zero_among z o 0 (formed_rules z k) starts refl))

  module _ (n : ℕ) (f : Formed z) where
    pub included_26 : copy_fault z o n ≡ 26 → ⊥
    included_26 e = (fault_26 z o n f).0 e starts

    pub included_27 : (copy_fault z o n ≡ 27) ↔ ((0 < n) × (BorderIn z p (o + n) → ⊥))
    included_27 = fault_by z o n f (BorderIn z p) starts among_in (λ e b. CopyAmong.inside p m t j b)

    pub included_28 :
        (copy_fault z o n ≡ 28)
        ↔ ((e q : ℕ) × IncludedEnds z o n e × BorderIn z p e × (q ∈ included z p) × (o ≤ q) × (q < e) × (type z q ≡ 31))
    included_28 = (
      λ e.
          let a = among e in
          let b = among_in (copy_end z o n) a in
          let w = (fault_28 z o n f a).0 e in
          let i = keep_from (λ q. (o ≤? q) && (q <? copy_end z o n)) (included z p) (rw (copied_exact z o n, part k n (copy_end z o n) b) at w.1) in
          let l = copied_inside z o n w.0 w.1 in
          (copy_end z o n, w.0, ends_in k n (copy_end z o n) (copy_ends_lem z o n), b, i.0, l.1, l.2, w.2),
      λ w.
          let e : copy_end z o n ≡ w.0 = ends_copy z o n w.0 (in_ends k n w.0 w.2) in
          let b : BorderIn z p (copy_end z o n) = subst (BorderIn z p) (sym e) w.3 in
          let i = units_included z p w.1 m aggregator w.4 in
          let l = inside_copied z o n w.1 i (λ c. let v = w.7 in absurd (omega arith)) w.5 (rw e w.6) in
          (fault_28 z o n f (CopyAmong.inside p m t j b)).1 (w.1, l, w.7),
    )
      where
        k : check z ≡ ok tt
        k = rules_formed z f

        among : copy_fault z o n ≡ 28 → CopyAmong z o (copy_end z o n)
        among e = by_copy z o n f (λ no i. absurd (no starts)) (λ s no i. absurd (omega arith)) (λ a q u v i. a) (λ a no i. a)

-- the fault of an extractor is that of its copy
pub fault_of_copy :
    (b : List ℕ) → Bytes b → (r : Recording) → first_layout.means b ≡ ok r → (n p m : ℕ) → 0 < n → n ≤ sample_count r.layout →
    NamedBy r.layout n (track_ref_index (sample_of r n) p) (sample_offset (sample_of r n) p) m → (k : ℕ) → 0 < k →
    ExtractorFault r n p k ↔ (copy_fault (sample_of r m) (data_offset (sample_of r n) p) (data_length (sample_of r n) p) ≡ k)
fault_of_copy b bytes r accepted n p m some there w k s =
    copy_fault_is r (rise b bytes r accepted) n (offset_byte b bytes r accepted n some there) p w s
