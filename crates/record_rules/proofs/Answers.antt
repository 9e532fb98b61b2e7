-- What the reader's answer says of the first refusal of the bytes, both ways; and the call with a kind's number. Assumes nothing.
--
--   accepted_as, good_read      accepted exactly if there is no refusal, and as what the bytes mean
--   refused_as, fault_read      refused with the first refusal, at 0
--   kind_cases                  cases of a kind's number
--   read_known, read_unknown    the call
use Rattle.std.specs.Prelude.{None, Option, Some}
use Prim.Native.Nat.{ℕ, ◌<◌}
use mathlib.Core.Path.{◌≡◌, refl, sym, ◌∙◌}
use mathlib.Core.List.{List}
use native.Mathlib.Omega.{arith}
use Rattle.words.specs.RefusalNumbers.{unknown_kind}
use Rattle.words.specs.Refusals.{refused, ok}
use Rattle.words.proofs.Tests.{by_number}
use Rattle.words.proofs.Refusals.{ok_same, ok_refused, refused_same}
use Rattle.numbers.specs.Kinds.{kind_of}
use Rattle.numbers.specs.declared.Kind.{Kind}
use Rattle.record_rules.specs.Read.{record_fault, record_of, read_as, read_record}
use Rattle.record_rules.specs.declared.Record.{Record}

module _ (k : Kind) (s : List ℕ) where
  pub accepted_as : {r : Record} → read_as k s ≡ ok r → (record_fault k s ≡ 0) × (r ≡ record_of k s)
  unfolding read_as
  accepted_as e = by_number (record_fault k s) (λ z. (z, sym (ok_same (rw z at e)))) (λ n z. ok_refused (rw z at e))

  pub good_read : record_fault k s ≡ 0 → read_as k s ≡ ok (record_of k s)
  unfolding read_as
  good_read e = rw e

  pub refused_as : {n p : ℕ} → read_as k s ≡ refused n p → (record_fault k s ≡ n) × (0 < n) × (p ≡ 0)
  unfolding read_as
  refused_as e =
      by_number (record_fault k s)
      (λ z. ok_refused (sym (rw z at e)))
      (λ m z. let q = refused_same (rw z at e) in (z ∙ q.0, omega (arith, q.0), sym q.1))

  pub fault_read : {n : ℕ} → record_fault k s ≡ n → 0 < n → read_as k s ≡ refused n 0
  unfolding read_as
  fault_read {n} e l = rw e (by_number n (λ z. absurd (omega arith)) (λ m z. rw z))

pub kind_cases : {G : Type 0} (m : Option Kind) → ((k : Kind) → m ≡ Some k → G) → (m ≡ None → G) → G
kind_cases (Some k) f g = f k refl
kind_cases None f g = g refl

module _ (kind : ℕ) where
  pub read_known : (k : Kind) (s : List ℕ) → kind_of kind ≡ Some k → read_record kind s ≡ read_as k s
  unfolding read_record
  read_known k s e = rw e

  pub read_unknown : (s : List ℕ) → kind_of kind ≡ None → read_record kind s ≡ refused unknown_kind 0
  unfolding read_record
  read_unknown s e = rw e
