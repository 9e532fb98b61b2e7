-- What `check_number` and `check_range` answer. Assumes nothing.
--
--   number_out, number_in    30, or none
--   range_out, range_in      the same of the numbers of a range
--   no_fault       none: the number is good
--   some_fault     a fault, at 0
use Rattle.std.specs.Prelude.{Result, Ok, Err}
use Prim.Native.Nat.{ℕ, ◌≤◌, ◌<◌}
use mathlib.Core.Path.{◌≡◌, sym, ap, ◌∙◌}
use native.Mathlib.Omega.{arith}
use mathlib.Core.Logic.{◌⊎◌, inl, inr}
use Rattle.words.specs.RefusalNumbers.{no_such_number}
use Rattle.words.specs.Refusals.{refused, ok, ◌at_place◌}
use Rattle.words.proofs.Tests.{tests}
use Rattle.words.proofs.Refusals.{at_ok, at_from}
use Rattle.numbers.specs.declared.Refusal.{Refusal}
use Rattle.samples.specs.Check.{answer_of}
use Rattle.resolution_rules.specs.Calls.{number_fault}
use Rattle.resolution_rules.specs.Ranges.{range_fault}

module _ (count n : ℕ) where
  pub number_out : (n ≡ 0) ⊎ ((n ≡ 0 → ⊥) × (count < n)) → refused no_such_number 0 ≡ (number_fault count n at_place 0)
  unfolding number_fault
  number_out (inl h) = search tests
  number_out (inr h) = let l = h.1 in search tests

  pub number_in : (n ≡ 0 → ⊥) → n ≤ count → ok tt ≡ (number_fault count n at_place 0)
  unfolding number_fault
  number_in h l = search tests

module _ (count first last : ℕ) where
  pub range_out : (first ≡ 0) ⊎ ((first ≡ 0 → ⊥) × ((count < last) ⊎ ((last ≤ count) × (last < first)))) → refused no_such_number 0 ≡ (range_fault count first last at_place 0)
  unfolding range_fault
  range_out (inl h) = search tests
  range_out (inr h) = elim h.1 [ inl l ↦ search tests | inr l ↦ let m = l.0 in let k = l.1 in search tests ]

  pub range_in : (first ≡ 0 → ⊥) → last ≤ count → first ≤ last → ok tt ≡ (range_fault count first last at_place 0)
  unfolding range_fault
  range_in h l m = search tests

module _ (F : ℕ) {r : Result (Unit {0}) Refusal} (e : answer_of r ≡ F at_place 0) where
  pub no_fault : r ≡ Ok tt → F ≡ 0
  no_fault o = at_ok F 0 (sym e ∙ ap answer_of o)

  pub some_fault : {f : Refusal} → r ≡ Err f → (f.number ≡ F) × (f.number ≡ 0 → ⊥) × (f.place.0 ≡ 0)
  some_fault {f} o =
      let w = at_from F 0 (sym e ∙ ap answer_of o) in
      (sym w.0, (λ z. absurd (let h = w.0 in let l = w.2 in omega arith)), sym w.1)
