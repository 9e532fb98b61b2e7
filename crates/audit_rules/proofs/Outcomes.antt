-- What the audit finds of a sample. Assumes nothing.
--
--   empty_good, empty_nothing                       a sample without bytes is good and delivers nothing
--   outcome_empty, -passed, -refused                the outcome, from what holds of the sample
--   by_outcome                                      one of the three holds
--   empty_because, passed_because, refused_because  what holds of the sample, from the outcome
use Prim.Native.Nat.{ℕ, ◌≤◌, ◌<◌}
use mathlib.Core.Path.{◌≡◌, refl, sym, ◌∙◌}
use mathlib.Core.List.{List, [], ◌∷◌}
use native.Mathlib.Omega.{arith}
use borrow.Author.Tests.{eq-eqb, ne_eqb}
use lib.ListN.{length}
use Rattle.words.specs.Refusals.{refused, ok}
use Rattle.words.specs.Lists.{each}
use Rattle.words.proofs.Tests.{by_number}
use Rattle.words.proofs.Refusals.{by_verdict}
use Rattle.units.specs.Aggregators.{units}
use Rattle.bundles.specs.Recordings.{Recording, content_of}
use Rattle.resolution_rules.specs.Resolving.{own, delivered, judged}
use Rattle.resolution_rules.proofs.Good.{good_rules, judged_refused}
use Rattle.resolution_rules.proofs.Sizes.{units_count}
use Rattle.tally.specs.declared.Outcome.TheVariants.{Passed, Empty, Refused}
use Rattle.audit_rules.specs.Auditing.{outcome_of}
use Rattle.audit_rules.proofs.Refusals.{place_inside}

nothing_in : {A : Type 0} (xs : List A) → length xs ≤ 0 → xs ≡ []
nothing_in [] h = refl
nothing_in (x ∷ xs) h = absurd (omega arith)

-- the three outcomes differ
module _ {G : Type 0} where
  passed_empty : Passed ≡ Empty → G
  passed_empty e = let z : ◌≡◌ {A = ℕ} 0 1 = cc in absurd (omega arith)

  passed_refused : Passed ≡ Refused → G
  passed_refused e = let z : ◌≡◌ {A = ℕ} 0 1 = cc in absurd (omega arith)

  empty_refused : Empty ≡ Refused → G
  empty_refused e = let z : ◌≡◌ {A = ℕ} 0 1 = cc in absurd (omega arith)

module _ (r : Recording) (n : ℕ) where
  abbrev size : ℕ
  size = length (content_of r n)

  pub empty_good : length (content_of r n) ≡ 0 → judged r n ≡ ok tt
  empty_good e = by_verdict (judged r n)
      (λ m p j. let k = place_inside r n (judged_refused r n m p j) in absurd (omega arith))
      (λ j. j)

  pub empty_nothing : length (content_of r n) ≡ 0 → delivered r n ≡ []
  unfolding delivered each
  empty_nothing e =
      let k = units_count r n (good_rules r n (empty_good e)).formed in
      rw (nothing_in (units (own r n)) (omega arith))

  pub outcome_empty : length (content_of r n) ≡ 0 → outcome_of r n ≡ Empty
  unfolding outcome_of
  outcome_empty e = rw (eq-eqb size 0 e)

  pub outcome_passed : 0 < length (content_of r n) → judged r n ≡ ok tt → outcome_of r n ≡ Passed
  unfolding outcome_of
  outcome_passed h j = rw (ne_eqb size 0 (λ z. absurd (omega arith)), j)

  pub outcome_refused : {m p : ℕ} → judged r n ≡ refused m p → outcome_of r n ≡ Refused
  unfolding outcome_of
  outcome_refused {m} {p} j = let k = place_inside r n (judged_refused r n m p j) in rw (ne_eqb size 0 (λ z. absurd (omega arith)), j)

  pub by_outcome : {G : Type 0} → (length (content_of r n) ≡ 0 → G) → (0 < length (content_of r n) → judged r n ≡ ok tt → G) → ((m p : ℕ) → judged r n ≡ refused m p → G) → G
  by_outcome f g h = by_verdict (judged r n) h
      (λ j. by_number size f (λ k e. g (omega arith) j))

  pub empty_because : outcome_of r n ≡ Empty → length (content_of r n) ≡ 0
  empty_because e = by_outcome
      (λ z. z)
      (λ h j. passed_empty (sym (outcome_passed h j) ∙ e))
      (λ m p j. empty_refused (sym e ∙ outcome_refused j))

  pub passed_because : outcome_of r n ≡ Passed → (0 < length (content_of r n)) × (judged r n ≡ ok tt)
  passed_because e = by_outcome
      (λ z. passed_empty (sym e ∙ outcome_empty z))
      (λ h j. (h, j))
      (λ m p j. passed_refused (sym e ∙ outcome_refused j))

  pub refused_because : outcome_of r n ≡ Refused → (m : ℕ) × (p : ℕ) × (judged r n ≡ refused m p)
  refused_because e = by_outcome
      (λ z. empty_refused (sym (outcome_empty z) ∙ e))
      (λ h j. passed_refused (sym (outcome_passed h j) ∙ e))
      (λ m p j. (m, p, j))
