-- Steps that answer a fault, as verdicts. Assumes nothing.
--
--   fault_none                a step that passed has no fault
--   verdict_ok, verdict_err   the verdict of a step that passed; of one that met a fault
--   verdict_at, ok_at, err_at  the verdict of a step, by its answer at a place
use Rattle.std.specs.Prelude.{Result, Ok, Err}
use Prim.Native.Nat.{ℕ, ◌<◌}
use mathlib.Core.Path.{◌≡◌, refl, ap, sym, ◌∙◌}
use native.Mathlib.Omega.{arith}
use Rattle.words.specs.Refusals.{ok, refused, ◌at_place◌}
use Rattle.words.proofs.Refusals.{at_none, at_refused}
use Rattle.numbers.specs.Faults.{number_of_fault, fault_in, refused_at}
use Rattle.numbers.proofs.Faults.{fault_some}
use Rattle.numbers.specs.declared.Refusal.{Refusal}
use Rattle.numbers.specs.declared.refusals.Fault.{Fault}
use Rattle.samples.specs.Check.{answer_of}

module _ {A : Type 0} {r : Result A Fault} {n : ℕ} (i : fault_in r ≡ n) where
  pub fault_none : {a : A} → r ≡ Ok a → n ≡ 0
  fault_none e = sym i ∙ ap fault_in e

  pub verdict_ok : {a : A} (p : ℕ) → r ≡ Ok a → n at_place p ≡ ok tt
  verdict_ok p e = at_none p (fault_none e)

  pub verdict_err : {f : Fault} (p : ℕ) → r ≡ Err f → n at_place p ≡ refused (number_of_fault f) p
  verdict_err {f} p e = at_refused p (sym (ap fault_in e) ∙ i) (λ z. let s = fault_some f in omega arith)

pub verdict_at : {n : ℕ} (p : ℕ) (r : Result (Unit {0}) Fault) → fault_in r ≡ n → answer_of (refused_at p r) ≡ n at_place p
verdict_at p (Ok tt) i = rw (← i)
verdict_at p (Err f) i = sym (verdict_err {A = Unit {0}} i p refl)

-- by what a step answers at a place
module _ (p : ℕ) (r : Result (Unit {0}) Fault) {n : ℕ} (i : fault_in r ≡ n) where
  pub ok_at : {a : Unit {0}} → refused_at p r ≡ Ok a → n at_place p ≡ ok tt
  ok_at e = sym (verdict_at p r i) ∙ ap answer_of e

  pub err_at : {y : Refusal} → refused_at p r ≡ Err y → n at_place p ≡ refused y.number y.place.0
  err_at e = sym (verdict_at p r i) ∙ ap answer_of e
