-- Steps that answer a fault or a value. Assumes nothing.
--
--   fault_some                         a fault has a number
--   no_fault                           a step with a value has none
--   err_some, err_none                 the same by `is_err`
--   exit                               what the exit of a `?` hands on
--   chain_here, chain_on               a chain of refusals, by what its first is
--   faults                             the exits of functions whose definition is such a chain, for `using` and `unfolding`
--   place_ok, place_none, place_value, place_fault  a step whose fault stands at a place: its value, or its refusal
--   place_number                       the number and the place of that refusal
use Prim.Native.Nat.{ℕ, zero, suc, ◌<◌}
use mathlib.Core.Path.{◌≡◌, refl, ap, sym, ◌∙◌}
use native.Mathlib.Omega.{arith}
use Rattle.std.specs.Prelude.{Result, Ok, Err}
use Rattle.std.specs.Result.{IsErrAnd, IfOk, is_err}
use mathlib.Core.Bool.{true, false}
use Rattle.words.proofs.Tests.{true_false}
use Rattle.std.proofs.lemmas.Result.{err_from_is_err_and, IfOk-at_ok}
use Rattle.words.specs.Refusals.{◌or_else◌, refused, ◌at_place◌}
use Rattle.words.proofs.Refusals.{at_refused}
use Rattle.numbers.specs.Faults.{number_of_fault, fault_in, numbered, refusal_at, refused_at}
use Rattle.numbers.specs.declared.Refusal.{Refusal}
use Rattle.numbers.specs.declared.refusals.Fault.{Fault}
use Rattle.numbers.specs.declared.refusals.Fault.TheVariants as fault

pub fault_some : (f : Fault) → 0 < number_of_fault f
fault_some fault.BundleTooLong = omega arith
fault_some fault.BundleCut = omega arith
fault_some fault.CountOutOfLimits = omega arith
fault_some fault.UnknownKind = omega arith
fault_some fault.BadReference = omega arith
fault_some fault.BadTrackOrTime = omega arith
fault_some fault.BadByteCount = omega arith
fault_some fault.RecordCut = omega arith
fault_some fault.BadVersion = omega arith
fault_some fault.WrongFixedBits = omega arith
fault_some fault.BadLengthSize = omega arith
fault_some fault.BadSet = omega arith
fault_some fault.BytesAfterRecord = omega arith
fault_some fault.LengthFieldCut = omega arith
fault_some fault.UnitTooLong = omega arith
fault_some fault.EmptyUnit = omega arith
fault_some fault.TopBitSet = omega arith
fault_some fault.UnitTooShort = omega arith
fault_some fault.NestedAggregator = omega arith
fault_some fault.SliceInAvcAggregator = omega arith
fault_some fault.BadAdditionalBytes = omega arith
fault_some fault.BadExtractorSize = omega arith
fault_some fault.BadTrackRefIndex = omega arith
fault_some fault.NoSampleNamed = omega arith
fault_some fault.NamedIllFormed = omega arith
fault_some fault.BadDataOffset = omega arith
fault_some fault.BadDataLength = omega arith
fault_some fault.ExtractorCopied = omega arith
fault_some fault.OutputTooLong = omega arith
fault_some fault.NoSuchNumber = omega arith
fault_some fault.FieldsFitNoRecord = omega arith
fault_some fault.UnitNotStreamable = omega arith
fault_some fault.BadByteStream = omega arith
fault_some fault.UnitExceedsLengthSize = omega arith

pub no_fault : {A : Type 0} {r : Result A Fault} {a : A} {n : ℕ} → r ≡ Ok a → fault_in r ≡ n → n ≡ 0
no_fault e i = sym i ∙ ap fault_in e

-- a step by `is_err`
pub err_some : {A : Type 0} (r : Result A Fault) → is_err r ≡ true → fault_in r ≡ 0 → ⊥
err_some (Ok a) e z = true_false _ e refl
err_some (Err f) e z = absurd (let s = fault_some f in omega arith)

pub err_none : {A : Type 0} (r : Result A Fault) → is_err r ≡ false → fault_in r ≡ 0
err_none (Ok a) e = refl
err_none (Err f) e = true_false _ refl e

pub exit : {A : Type 0} (r : Result A Fault) (f : Fault) → IsErrAnd r (λ y. y ≡ f) → fault_in r ≡ number_of_fault f
exit r f e = let p = err_from_is_err_and r e in rw (p.1, p.2)

pub chain_here : (n m : ℕ) → 0 < n → (n or_else m) ≡ n
chain_here zero m h = absurd (omega arith)
chain_here (suc n) m h = refl

pub chain_on : (n m : ℕ) → 0 ≡ n → (n or_else m) ≡ m
chain_on n m e = rw (← e)

pub ruleset faults = (fault_some, exit, chain_here, chain_on)

-- a step whose fault stands at the place p
pub place_ok : {A : Type 0} (r : Result A Fault) {a : A} (p : ℕ) → Ok a ≡ refused_at p r → r ≡ Ok a
place_ok (Ok b) {a} p e = let q : b ≡ a = cc in rw q
place_ok (Err f) p e = absurd cc

pub place_none : {A : Type 0} (r : Result A Fault) {a : A} {n : ℕ} (p : ℕ) → Ok a ≡ refused_at p r → fault_in r ≡ n → n ≡ 0
place_none r p e i = no_fault (place_ok r p e) i

pub place_value : {A : Type 0} (r : Result A Fault) (P : A → Type 0) {a : A} (p : ℕ) → Ok a ≡ refused_at p r → IfOk r P → P a
place_value r P p e i = IfOk-at_ok P (place_ok r p e) i

pub place_fault : {A : Type 0} (r : Result A Fault) {e : Refusal} {n : ℕ} (p : ℕ) → Err e ≡ refused_at p r → fault_in r ≡ n → n at_place p ≡ refused e.number e.place.0
place_fault (Ok a) p e i = absurd cc
place_fault (Err f) {e} p h i =
    let k : e ≡ refusal_at f p = cc in
    rw (← i, k) (at_refused {r = number_of_fault f} p refl (λ z. let s = fault_some f in omega arith))

pub place_number : {A : Type 0} (r : Result A Fault) {e : Refusal} (p : ℕ) → Err e ≡ refused_at p r → (numbered r ≡ Err e.number) × (e.place.0 ≡ p)
place_number (Ok a) p e = absurd cc
place_number (Err f) {e} p h = let k : e ≡ refusal_at f p = cc in rw k (refl, refl)
