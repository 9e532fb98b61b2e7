-- The loop that measures: what was added up so far, with what is left, is the size of the sample. Assumes nothing.
--
--   sized                                       the size of the sample of units that were read
--   Measuring, measuring_start, -good, -end     what holds in the loop
--   measuring_refused                           33 or 34 of a unit
--   sized_refused, sized_fits, sized_long, -end what is measured, by that size
use Rattle.std.specs.Prelude.{None, Option, Some}
use Rattle.std.specs.Option.{ok_or}
use Prim.Native.Nat.{ℕ, ◌+◌, ◌≤◌, ◌<◌}
use mathlib.Core.Path.{◌≡◌, ap, ap₂, sym, ◌∙◌}
use mathlib.Core.List.{List, map}
use native.Mathlib.Omega.{arith}
use native.Mathlib.Nat.{zero-add}
use borrow.Author.Tests.{le-ltb, ltb-true, ltb-false}
use lib.ListN.{length}
use Rattle.words.specs.RefusalNumbers.{output_too_long}
use Rattle.words.specs.Refusals.{Answer, refused, ok, Verdict, ◌and_then◌}
use Rattle.words.specs.Buffers.{within, counted}
use Rattle.words.proofs.Refusals.{by_verdict, ok_refused, ok_same}
use Rattle.words.proofs.Buffers.{within_room, within_not}
use Rattle.words.specs.Tests.{◌<?◌}
use Rattle.words.proofs.Tests.{by_bool}
use Rattle.numbers.specs.Answers.{answer_of}
use Rattle.numbers.specs.Faults.{refusal_at}
use Rattle.numbers.specs.declared.refusals.Fault.TheVariants.{OutputTooLong}
use Rattle.byte_streams.specs.Reading.{strip, unit_verdict, parts_verdict, units_in, sample_with, sample_made}
use Rattle.byte_streams.specs.Places.{zeros_end}
use Rattle.byte_streams.proofs.Samples.{sample_none}
use Rattle.stream_reader.specs.Steps.{unit_from, next_from, parts_after, capped, add_to}
use Rattle.stream_reader.proofs.Totals.{sample_size_lem, added_capped}
use Rattle.stream_reader.proofs.Found.{next_inside, parts_none}
use Rattle.stream_reader.proofs.Walks.{verdict_end, unit_refused, Step, step}
use Rattle.stream_reader.proofs.Front.{units_after, Started}

abbrev pub sized : ℕ → Answer (List (List ℕ)) → Answer ℕ
sized L (refused n p) = refused n p
sized L (ok us) = ok (length (sample_with L us))

module _ (L : ℕ) (s : List ℕ) where
  -- what is left of it after the start code whose 01 stands at p, after m bytes
  abbrev rest : ℕ → ℕ → Answer ℕ
  rest p m = parts_verdict L (p + 1) (parts_after s p) and_then ok (m + length (sample_with L (map strip (parts_after s p))))

  sized_after : (p : ℕ) → sized L (units_after L s p) ≡ rest p 0
  sized_after p = by_verdict (parts_verdict L (p + 1) (parts_after s p))
      (λ n q e. rw e)
      (λ e. rw e (ap ok (sym (zero-add (length (sample_with L (map strip (parts_after s p))))))))

  rest_next : (p m : ℕ) → Step L s p → rest p m ≡ rest (next_from s (p + 1)) (m + L + length (unit_from s (p + 1)))
  rest_next p m c =
      let u = unit_from s (p + 1) in
      let us = map strip (parts_after s (next_from s (p + 1))) in
      let k = ap (λ l. length (sample_with L l)) c.units ∙ sample_size_lem L u us in
      let z : m + length (sample_with L (map strip (parts_after s p))) ≡ m + L + length u + length (sample_with L us) = omega arith in
      ap₂ (λ (v : Verdict) (n : ℕ). v and_then ok n) c.verdict z

  -- the loop
  module _ (room : ℕ) where
    pub record Measuring (t : Option ℕ) (p : ℕ) : Type 0 where
      pub inside : p ≤ length s
      pub taken : ℕ
      pub total : t ≡ capped room taken
      pub left : rest p taken ≡ sized L (units_in L s)

    pub measuring_start : (first : ℕ) → first ≡ zeros_end s 0 → Started s → Measuring (Some 0) first
    measuring_start first at g = let i = g.inside in record {
      inside = omega arith;
      taken = 0;
      total = rw (le-ltb room 0 (omega arith));
      left = sym (sized_after first) ∙ ap (sized L) (ap (units_after L s) at ∙ sym (g.units L));
    }

    module _ (t : Option ℕ) (p : ℕ) (c : Measuring t p) where
      pub measuring_end : length s ≤ p → sized L (units_in L s) ≡ ok c.taken
      measuring_end h =
          let z = ap (λ vs. length (sample_with L (map strip vs))) (parts_none s p h) ∙ ap length (sample_none L) in
          let k : c.taken + length (sample_with L (map strip (parts_after s p))) ≡ c.taken = omega arith in
          sym c.left ∙ ap₂ (λ (v : Verdict) (n : ℕ). v and_then ok n) (verdict_end L s p h) k

      module _ (h : p < length s) where
        -- what is said of the unit
        abbrev said : Answer (ℕ × ℕ)
        said = unit_verdict L (p + 1) (unit_from s (p + 1)) and_then ok (length (unit_from s (p + 1)), next_from s (p + 1))

        pub measuring_refused : {r : Answer (ℕ × ℕ)} {n q : ℕ} → r ≡ said → r ≡ refused n q → sized L (units_in L s) ≡ refused n q
        measuring_refused {r} {n} {q} is f = by_verdict (unit_verdict L (p + 1) (unit_from s (p + 1)))
            (λ m k z.
            let y : ◌≡◌ {A = Answer (ℕ × ℕ)} (refused m k) (refused n q) = sym (rw z at is) ∙ f in
            let left = ok (c.taken + length (sample_with L (map strip (parts_after s p)))) in
            sym c.left ∙ ap (λ (v : Verdict). v and_then left) (unit_refused L s p h z) ∙ cc)
            (λ z. ok_refused (sym f ∙ (rw z at is)))

        pub measuring_good : {r : Answer (ℕ × ℕ)} {n e : ℕ} → r ≡ said → r ≡ ok (n, e) → (p < e) × Measuring (add_to room t L n) e
        measuring_good {r} {n} {e} is f = by_verdict (unit_verdict L (p + 1) (unit_from s (p + 1)))
            (λ m k z. ok_refused (sym (rw z at is) ∙ f))
            (λ z.
            let w = step L s p h z in
            let y = ok_same (sym (rw z at is) ∙ f) in
            let size : length (unit_from s (p + 1)) ≡ n = ap (λ (x : ℕ × ℕ). x.0) y in
            let next : next_from s (p + 1) ≡ e = ap (λ (x : ℕ × ℕ). x.1) y in
            let i = next_inside s (p + 1) (omega arith) in (
              omega arith,
              record {
                inside = omega arith;
                taken = c.taken + L + n;
                total = rw c.total (added_capped room c.taken L n);
                left = sym (sym c.left ∙ rest_next p c.taken w ∙ ap₂ (λ (k j : ℕ). rest k (c.taken + L + j)) next size);
              },
            ))

-- what is measured, by the size
module _ (L room : ℕ) where
  pub sized_refused : (a : Answer (List (List ℕ))) {n p : ℕ} → sized L a ≡ refused n p → refused n p ≡ counted (within room (sample_made L a))
  sized_refused (refused m q) e = cc
  sized_refused (ok us) e = ok_refused (sym e)

  pub sized_fits : (a : Answer (List (List ℕ))) {m : ℕ} → sized L a ≡ ok m → m ≤ room → ok m ≡ counted (within room (sample_made L a))
  sized_fits (refused n p) e h = ok_refused e
  sized_fits (ok us) {m} e h =
      let z : length (sample_with L us) ≡ m = ok_same e in
      sym (ap counted (within_room room (sample_with L us) (omega arith)) ∙ ap ok z)

  pub sized_long : (a : Answer (List (List ℕ))) {m : ℕ} → sized L a ≡ ok m → room < m → refused output_too_long 0 ≡ counted (within room (sample_made L a))
  sized_long (refused n p) e h = ok_refused e
  sized_long (ok us) {m} e h =
      let z : length (sample_with L us) ≡ m = ok_same e in
      sym (ap counted (within_not room (sample_with L us) (omega arith)))

  -- by the total, at the end
  pub sized_end :
      (a : Answer (List (List ℕ))) (t : Option ℕ) {m : ℕ} → sized L a ≡ ok m → t ≡ capped room m →
      answer_of (ok_or t (refusal_at OutputTooLong 0)) ≡ counted (within room (sample_made L a))
  sized_end a t {m} e f = by_bool (room <? m)
      (λ q. let g : t ≡ None = f ∙ rw q in rw g (sized_long a e (ltb-true room m q)))
      (λ q. let g : t ≡ Some m = f ∙ rw q in rw g (sized_fits a e (ltb-false room m q)))
