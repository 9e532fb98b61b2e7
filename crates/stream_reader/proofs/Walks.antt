-- The parts of a stream s after the start code whose 01 stands at p: a step from unit to unit. Assumes nothing.
--
--   verdict_end          at the end nothing is refused
--   verdict_unit         what is refused of the parts: of the first unit, or of those after it
--   unit_refused         so a refusal of the first unit
--   Step, step           a good unit, and the parts after the next start code
use Prim.Native.Nat.{ℕ, ◌+◌, ◌-◌, ◌≤◌, ◌<◌}
use mathlib.Core.Path.{◌≡◌, refl, ap, ap₂, sym, ◌∙◌}
use mathlib.Core.Logic.{⊎_elim}
use mathlib.Core.List.{List, [], ◌∷◌, map}
use native.Mathlib.Omega.{arith}
use borrow.Author.Tests.{ltb-true, ltb-false}
use lib.ListN.{length, drop}
use Rattle.words.specs.Tests.{◌<?◌}
use Rattle.words.specs.Refusals.{refused, ok, Verdict, ◌and_then◌}
use Rattle.words.specs.Bytes.{part}
use Rattle.words.proofs.Tests.{by_bool}
use Rattle.words.proofs.Refusals.{ok_refused}
use Rattle.byte_streams.specs.Reading.{split, strip, unit_verdict, parts_verdict}
use Rattle.byte_streams.specs.Places.{unit_stop}
use Rattle.stream_reader.specs.Steps.{unit_from, next_from, parts_after}
use Rattle.stream_reader.proofs.Judged.{unit_inside}
use Rattle.stream_reader.proofs.Found.{Good, found, parts_here, parts_none}

-- no part left
verdict_none : (L q : ℕ) → parts_verdict L q [] ≡ ok tt
unfolding parts_verdict
verdict_none L q = refl

pub verdict_end : (L : ℕ) (s : List ℕ) (p : ℕ) → length s ≤ p → parts_verdict L (p + 1) (parts_after s p) ≡ ok tt
verdict_end L s p h = ap (parts_verdict L (p + 1)) (parts_none s p h) ∙ verdict_none L (p + 1)

pub record Step (L : ℕ) (s : List ℕ) (p : ℕ) : Type 0 where
  pub unit : unit_from s (p + 1) ≡ part s (p + 1) (unit_stop s (p + 1) - (p + 1))
  pub size : length (unit_from s (p + 1)) ≡ unit_stop s (p + 1) - (p + 1)
  pub units : map strip (parts_after s p) ≡ unit_from s (p + 1) ∷ map strip (parts_after s (next_from s (p + 1)))
  pub verdict : parts_verdict L (p + 1) (parts_after s p) ≡ parts_verdict L (next_from s (p + 1) + 1) (parts_after s (next_from s (p + 1)))

module _ (L : ℕ) (s : List ℕ) (p : ℕ) (h : p < length s) where
  abbrev before : List ℕ
  before = (split (drop (p + 1) s)).before

  abbrev after : List (List ℕ)
  after = (split (drop (p + 1) s)).after

  units_unit : map strip (parts_after s p) ≡ unit_from s (p + 1) ∷ map strip after
  unfolding unit_from
  units_unit = ap (map strip) (parts_here s p h)

  pub verdict_unit :
      parts_verdict L (p + 1) (parts_after s p)
      ≡ (unit_verdict L (p + 1) (unit_from s (p + 1)) and_then parts_verdict L (p + 1 + length before + 3) after)
  unfolding unit_from parts_verdict
  verdict_unit = ap (parts_verdict L (p + 1)) (parts_here s p h)

  pub unit_refused :
      {n q : ℕ} → unit_verdict L (p + 1) (unit_from s (p + 1)) ≡ refused n q → parts_verdict L (p + 1) (parts_after s p) ≡ refused n q
  unit_refused e = verdict_unit ∙ ap (λ (v : Verdict). v and_then parts_verdict L (p + 1 + length before + 3) after) e

  -- the place of the next part, if there is one
  place : Good s (p + 1) → parts_verdict L (p + 1 + length before + 3) after ≡ parts_verdict L (next_from s (p + 1) + 1) (parts_after s (next_from s (p + 1)))
  place g =
      let e = next_from s (p + 1) in
      by_bool (e <? length s)
      (λ t.
      let i = g.place (ltb-true e (length s) t) in
      let z : p + 1 + length before + 3 ≡ e + 1 = omega arith in
      ap₂ (parts_verdict L) z g.after)
      (λ t.
      let none = parts_none s e (ltb-false e (length s) t) in
      ap (parts_verdict L (p + 1 + length before + 3)) (g.after ∙ none)
      ∙ verdict_none L (p + 1 + length before + 3)
      ∙ sym (ap (parts_verdict L (e + 1)) none ∙ verdict_none L (e + 1)))

  pub step : unit_verdict L (p + 1) (unit_from s (p + 1)) ≡ ok tt → Step L s p
  step ok_unit = ⊎_elim
      (λ g. record {
        unit = g.unit;
        size = g.size;
        units = units_unit ∙ ap (λ vs. unit_from s (p + 1) ∷ map strip vs) g.after;
        verdict = verdict_unit ∙ ap (λ (v : Verdict). v and_then parts_verdict L (p + 1 + length before + 3) after) ok_unit ∙ place g;
      })
      (λ b. ok_refused (sym b.verdict ∙ unit_inside L (p + 1) (unit_from s (p + 1)) ok_unit))
      (found s (p + 1) (omega arith))
