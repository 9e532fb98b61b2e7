-- Laws of sets. Assumes nothing.
--
--   Whole, whole, no_fault                          what a set without a refusal has, both ways
--   sets_none, sets_here, sets_on                   a walk at its end, at a refusal, and past a set without one
--   sets_within                                     a walk without a refusal ends in the bytes
--   sets_inside, sets_outside                       sets in a part are those sets in the whole, both ways
--   fit_sets, fit_true, fit_walk                    what `sets_fit` says, and a walk of it
use Prim.Native.Nat.{ℕ, zero, suc, ◌+◌, ◌-◌, ◌%◌, ◌≤◌, ◌<◌}
use mathlib.Core.Path.{◌≡◌, refl, ap, sym, ◌∙◌}
use mathlib.Core.Bool.{Bool, true}
use mathlib.Core.List.{List, ◌++◌, map}
use native.Mathlib.Omega.{arith}
use native.Mathlib.Numerals.{sub-one}
use native.Mathlib.Nat.{pos_of_ne-zero}
use Rattle.std.specs.Prelude.{Result, Ok, Err}
use Rattle.std.specs.Result.{IfOk, result_eq}
use Rattle.numbers.specs.Faults.{number_of_fault, fault_in}
use Rattle.numbers.specs.declared.refusals.Fault.{Fault}
use Rattle.numbers.proofs.Faults.{fault_some}
use lib.Dec.{eqb}
use borrow.Author.Tests.{ltb-false, eqb-true, eqb-false, leb-false, not-false, lt-leb, le-ltb, eq-eqb, ne_eqb}
use lib.ListN.{length, drop}
use Rattle.words.specs.Tests.{◌<?◌, ◌≤?◌, ◌≡?◌}
use Rattle.words.specs.RefusalNumbers.{record_cut, bad_set}
use Rattle.words.specs.Refusals.{◌if◌, first_of}
use Rattle.words.specs.Walks.{entries, skip}
use Rattle.words.specs.Bytes.{byte_at, big}
use Rattle.words.proofs.Tests.{by_bool, and_both}
use Rattle.words.proofs.Refusals.{if_none, or_else_none, or_else_here, first_of_cong, first_of_map}
use Rattle.words.proofs.Walks.{entries_end, entries_same, entries_shift, skip_shift}
use Rattle.words.proofs.Positions.{at_append, at_inside}
use Rattle.words.proofs.Bytes.{big_inside}
use Rattle.sets.specs.Sets.{one_of, set_end, sets_end, exactly, set_fault, sets_fault, sets_fit}
use Rattle.sets.specs.declared.SetTypes.{SetTypes}

-- a set without a refusal
pub record Whole (types : SetTypes) (s : List ℕ) (p : ℕ) : Type 0 where
  pub some : 0 < big s p 2
  pub inside : set_end s p ≤ length s
  pub top : byte_at s (p + 2) < 128
  pub type : one_of types (byte_at s (p + 2) % 32) ≡ true

pub whole : (types : SetTypes) (s : List ℕ) (p : ℕ) → set_fault types s p ≡ 0 → Whole types s p
unfolding set_fault
whole types s p h =
    let a = or_else_none (record_cut if length s <? p + 2) _ h in
    let b = or_else_none (bad_set if big s p 2 ≡? 0) _ a.1 in
    let c = or_else_none (record_cut if length s <? set_end s p) _ b.1 in
    let d = or_else_none (bad_set if 128 ≤? byte_at s (p + 2)) _ c.1 in
    record {
      some = pos_of_ne-zero (eqb-false _ _ (if_none _ _ b.0));
      inside = ltb-false _ _ (if_none _ _ c.0);
      top = leb-false _ _ (if_none _ _ d.0);
      type = not-false _ (if_none _ _ d.1);
    }

pub no_fault : (types : SetTypes) (s : List ℕ) (p : ℕ) → Whole types s p → set_fault types s p ≡ 0
unfolding set_fault
no_fault types s p w =
    rw (
      le-ltb (length s) (p + 2) (omega (arith, w.inside)),
      ne_eqb (big s p 2) 0 (λ z. omega (arith, w.some, z)),
      le-ltb (length s) (set_end s p) w.inside,
      lt-leb 128 (byte_at s (p + 2)) w.top,
      w.type,
    )

grows : (s : List ℕ) (p : ℕ) → p ≤ set_end s p
grows s p = omega arith

module _ (types : SetTypes) (s : List ℕ) where
  pub sets_none : {n : ℕ} (p : ℕ) → n ≤ 0 → (sets_fault types s n p ≡ 0) × (sets_end s n p ≡ p)
  unfolding entries skip first_of
  sets_none {n = zero} p h = (refl, refl)
  sets_none {n = suc n} p h = absurd (omega arith)

  pub sets_here : {n r : ℕ} (p : ℕ) → 0 < n → r ≡ set_fault types s p → (r ≡ 0 → ⊥) → r ≡ sets_fault types s n p
  unfolding entries first_of
  sets_here {n = zero} p h e f = absurd (omega arith)
  sets_here {n = suc n} p h e f = or_else_here _ e f

  pub sets_on : (n p : ℕ) → 0 < n → set_fault types s p ≡ 0 → (sets_fault types s n p ≡ sets_fault types s (n - 1) (set_end s p)) × (sets_end s n p ≡ sets_end s (n - 1) (set_end s p))
  unfolding entries skip first_of
  sets_on zero p h e = absurd (omega arith)
  sets_on (suc n) p h e = rw (e, sub-one (suc n)) (refl, refl)

  pub sets_within : (n p : ℕ) → p ≤ length s → sets_fault types s n p ≡ 0 → (p ≤ sets_end s n p) × (sets_end s n p ≤ length s)
  unfolding entries skip first_of
  sets_within zero p h e = (omega arith, h)
  sets_within (suc n) p h e =
      let a = or_else_none (set_fault types s p) _ e in
      let w = whole types s p a.0 in
      let b = sets_within n (set_end s p) w.inside a.1 in
      (omega arith, b.1)

-- b stands in s at p
module _ (types : SetTypes) (s : List ℕ) (p : ℕ) (b r : List ℕ) (h : p ≤ length s) (e : drop p s ≡ b ++ r) where
  -- the sets of s, counted from p on
  abbrev here : ℕ → ℕ
  here q = q + 2 + big s (p + q) 2

  there : (q : ℕ) → set_end s (p + q) ≡ p + here q
  there q = omega arith

  same_end : (q : ℕ) → q + 2 ≤ length b → here q ≡ set_end b q
  same_end q l = ap (λ (x : ℕ). q + 2 + x) (big_inside s p b r e q 2 l)

  same_byte : (q : ℕ) → q + 2 < length b → byte_at s (p + q + 2) ≡ byte_at b (q + 2)
  same_byte q l = let n : p + q + 2 ≡ p + (q + 2) = omega arith in ap (byte_at s) n ∙ at_inside s p b r (q + 2) e l

  same_fault : (q : ℕ) → set_end b q ≤ length b → set_fault types s (p + q) ≡ set_fault types b q
  unfolding set_fault
  same_fault q l =
      let a = at_append s p b r h e in
      let m : big s (p + q) 2 ≡ big b q 2 = big_inside s p b r e q 2 (omega arith) in
      let z : set_end s (p + q) ≤ length s = omega (arith, a.within) in
      rw (
        le-ltb (length s) (p + q + 2) (omega (arith, a.within)),
        le-ltb (length b) (q + 2) (omega arith),
        le-ltb (length s) (set_end s (p + q)) z,
        le-ltb (length b) (set_end b q) l,
        m,
      ) (by_bool (big b q 2 ≡? 0) (λ t. rw t) (λ t. rw (same_byte q (let n = eqb-false (big b q 2) 0 t in omega arith))))

  pub sets_inside : (n q : ℕ) → sets_end b n q ≤ length b → (sets_fault types s n (p + q) ≡ sets_fault types b n q) × (sets_end s n (p + q) ≡ p + sets_end b n q)
  sets_inside n q l =
      let w = entries_same (set_end b) (grows b) here (length b) (λ a k. same_end a (omega arith)) n q l in (
        ap (first_of (set_fault types s)) (entries_shift (set_end s) here p there n q ∙ ap (map (λ a. p + a)) w.0)
            ∙ first_of_map (set_fault types s) (λ a. p + a) (entries (set_end b) n q)
            ∙ first_of_cong (λ a. set_fault types s (p + a)) (set_fault types b) (entries (set_end b) n q) (λ a m. let d = entries_end (set_end b) (grows b) n q a m in same_fault a (omega arith)),
        skip_shift (set_end s) here p there n q ∙ ap (λ a. p + a) w.1,
      )

  -- where they end in the whole tells that they end in the part
  pub sets_outside : (n q : ℕ) → sets_end s n (p + q) ≤ p + length b → sets_end b n q ≤ length b
  sets_outside n q l =
      let e' = skip_shift (set_end s) here p there n q in
      let k : skip here n q ≤ length b = omega arith in
      let w = entries_same here (λ a. omega arith) (set_end b) (length b) (λ a d. sym (same_end a (omega arith))) n q k in
      omega (arith, w.1)

-- what `sets_fit` says
pub fit_sets : (types : SetTypes) (s : List ℕ) (n : ℕ) → sets_fit types s n ≡ true → (sets_fault types s n 0 ≡ 0) × (sets_end s n 0 ≡ length s)
unfolding sets_fit exactly
fit_sets types s n e = let w = and_both (sets_fault types s n 0 ≡? 0) _ e in (eqb-true _ _ w.0, eqb-true _ _ w.1)

pub fit_true : (types : SetTypes) (s : List ℕ) (n : ℕ) → sets_fault types s n 0 ≡ 0 → sets_end s n 0 ≡ length s → sets_fit types s n ≡ true
unfolding sets_fit exactly
fit_true types s n e f = rw (e, eq-eqb (sets_end s n 0) (length s) f)

pub fit_walk :
    (types : SetTypes) (s : List ℕ) (n : ℕ) (same : Fault → Fault → Bool) (r : Result ℕ Fault) → fault_in r ≡ sets_fault types s n 0 →
    IfOk r (λ end. end ≡ sets_end s n 0) → result_eq eqb same r (Ok (length s)) ≡ sets_fit types s n
unfolding sets_fit exactly
fit_walk types s n same (Ok end) e i = rw (← e, i)
fit_walk types s n same (Err f) e i = let p = fault_some f in rw (← e, ne_eqb (number_of_fault f) 0 (λ z. omega arith))
