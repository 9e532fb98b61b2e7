-- The front of a stream s, by where its zeros end. Assumes nothing.
--
--   units_after                the units after a start code, or 33 or 34
--   Started                    zeros and a start code, or zeros only: the units are those after it
--   Stray                      a byte above 00 that ends no start code: 33 there
--   stray_short, stray_byte    a byte after fewer than two zeros; a byte that is not 01
--   started_end, started_code  no byte; a 01 after two zeros or more
--   first_inside               the zeros end inside the stream
--   read_started               units that were read are those after the first start code
use Prim.Native.Nat.{ℕ, suc, ◌+◌, ◌≤◌, ◌<◌}
use mathlib.Core.Path.{◌≡◌, refl, ap, ap₂, sym, ◌∙◌}
use mathlib.Core.Logic.{◌⊎◌, inl, inr, ⊎_elim}
use mathlib.Core.List.{List, [], ◌∷◌, ◌++◌, append_assoc, map}
use native.Mathlib.Omega.{arith}
use lib.ListN.{length, drop, length-append, length-replicate}
use Rattle.words.specs.RefusalNumbers.{bad_byte_stream}
use Rattle.words.specs.Refusals.{Answer, refused, ok, Verdict, ◌and_then◌}
use Rattle.words.specs.Bytes.{byte_at}
use Rattle.words.proofs.Positions.{at_append, at_cons}
use Rattle.words.proofs.Refusals.{ok_refused}
use Rattle.byte_streams.specs.Grammar.{zeros}
use Rattle.byte_streams.specs.Reading.{Parts, split, strip, lead_verdict, parts_verdict, units_of, units_in}
use Rattle.byte_streams.specs.Places.{leading_zeros, zeros_end}
use Rattle.byte_streams.proofs.Splits.{none_in}
use Rattle.byte_streams.proofs.Stops.{Front, front_by, code_split, byte_lead}
use Rattle.byte_streams.proofs.Reading.{lead_to}
use Rattle.byte_streams.proofs.Samples.{read_zeros}
use Rattle.stream_reader.specs.Steps.{parts_after}
use Rattle.stream_reader.proofs.Found.{parts_here, parts_none}
use Rattle.stream_reader.proofs.Walks.{verdict_end}

-- the units after the start code whose 01 stands at p
abbrev pub units_after : ℕ → List ℕ → ℕ → Answer (List (List ℕ))
units_after L s p = parts_verdict L (p + 1) (parts_after s p) and_then ok (map strip (parts_after s p))

pub record Started (s : List ℕ) : Type 0 where
  pub inside : zeros_end s 0 ≤ length s
  pub code : zeros_end s 0 < length s → (2 ≤ zeros_end s 0) × (byte_at s (zeros_end s 0) ≡ 1)
  pub units : (L : ℕ) → units_in L s ≡ units_after L s (zeros_end s 0)

pub record Stray (s : List ℕ) : Type 0 where
  pub inside : zeros_end s 0 < length s
  pub code : 2 ≤ zeros_end s 0 → byte_at s (zeros_end s 0) ≡ 1 → ⊥
  pub units : (L : ℕ) → units_in L s ≡ refused bad_byte_stream (zeros_end s 0)

module _ (s : List ℕ) where
  first_is : zeros_end s 0 ≡ leading_zeros s
  unfolding zeros_end
  first_is = omega arith

  units_split :
      (L : ℕ) (r : Parts) → split s ≡ r →
      units_in L s ≡ (lead_verdict 0 r.before and_then parts_verdict L (length r.before + 3) r.after and_then ok (map strip r.after))
  unfolding units_in units_of
  units_split L r e = ap (units_of L) e

  at_end : (k : ℕ) → zeros k ≡ s → zeros_end s 0 ≡ k → Started s
  at_end k e n =
      let l = ap length e in
      let c : length (zeros k) ≡ k = length-replicate k 0 in
      let h : length s ≤ zeros_end s 0 = omega arith in
      record {
        inside = omega arith;
        code = λ i. absurd (omega arith);
        units = λ L.
            ap (units_in L) (sym e) ∙ read_zeros L k
            ∙ sym (ap₂ (λ (v : Verdict) (us : List (List ℕ)). v and_then ok (map strip us)) (verdict_end L s (zeros_end s 0) h) (parts_none s (zeros_end s 0) h));
      }

  at_code : (k : ℕ) (t : List ℕ) → zeros k ++ (0 ∷ 0 ∷ 1 ∷ t) ≡ s → zeros_end s 0 ≡ k + 2 → Started s
  at_code k t e n =
      let p = zeros_end s 0 in
      let w = zeros k ++ (0 ∷ 0 ∷ []) in
      let m = length-append (zeros k) (0 ∷ 0 ∷ []) in
      let c : length (zeros k) ≡ k = length-replicate k 0 in
      let two : length {A = ℕ} (0 ∷ 0 ∷ []) ≡ 2 = refl in
      let z : 0 + length w ≡ p = omega arith in
      let f : drop 0 s ≡ w ++ (1 ∷ t) = sym e ∙ sym (append_assoc (zeros k) (0 ∷ 0 ∷ []) (1 ∷ t)) in
      let g = at_cons s p 1 t (rw z at (at_append s 0 w (1 ∷ t) (omega arith) f).next) in
      let i = g.there in
      let vs = (split t).before ∷ (split t).after in
      let is : vs ≡ parts_after s p = sym (parts_here s p i ∙ ap (λ x. (split x).before ∷ (split x).after) g.next) in
      let y : length (zeros k) + 3 ≡ p + 1 = omega arith in
      record {
        inside = omega arith;
        code = λ j. (omega arith, g.byte);
        units = λ L.
            units_split L (record { before = zeros k; after = vs }) (ap split (sym e) ∙ code_split [] k t none_in)
            ∙ ap (λ (v : Verdict). v and_then parts_verdict L (length (zeros k) + 3) vs and_then ok (map strip vs)) (lead_to 0 k)
            ∙ ap₂ (λ (q : ℕ) (us : List (List ℕ)). parts_verdict L q us and_then ok (map strip us)) y is;
      }

  at_byte : (k x : ℕ) (t : List ℕ) → (2 ≤ k → x ≡ 0 → ⊥) → zeros k ++ (suc x ∷ t) ≡ s → zeros_end s 0 ≡ k → Stray s
  at_byte k x t not e n =
      let c : length (zeros k) ≡ k = length-replicate k 0 in
      let z : 0 + length (zeros k) ≡ zeros_end s 0 = omega arith in
      let f : drop 0 s ≡ zeros k ++ (suc x ∷ t) = sym e in
      let g = at_cons s (zeros_end s 0) (suc x) t (rw z at (at_append s 0 (zeros k) (suc x ∷ t) (omega arith) f).next) in
      record {
        inside = g.there;
        code = λ i j. not (omega arith) (let b = g.byte in omega arith);
        units = λ L.
            units_split L (split s) refl
            ∙ ap (λ (v : Verdict). v and_then parts_verdict L (length (split s).before + 3) (split s).after and_then ok (map strip (split s).after))
            (ap (λ l. lead_verdict 0 (split l).before) (sym e) ∙ byte_lead k x t not)
            ∙ ap (refused bad_byte_stream) (sym n);
      }

  by_front : {w : List ℕ} {k : ℕ} → Front w k → w ≡ s → zeros_end s 0 ≡ k → Started s ⊎ Stray s
  by_front (Front.none k) e n = inl (at_end k e n)
  by_front (Front.code k t) e n = inl (at_code k t e n)
  by_front (Front.byte k x t not) e n = inr (at_byte k x t not e n)

  front : Started s ⊎ Stray s
  front = by_front (front_by s) refl first_is

module _ (s : List ℕ) (first : ℕ) (at : first ≡ zeros_end s 0) where
  pub stray_short : first < length s → first < 2 → Stray s
  stray_short h l = ⊎_elim (λ g. let c = (g.code (omega arith)).0 in absurd (omega arith)) (λ b. b) (front s)

  pub stray_byte : first < length s → (byte_at s first ≡ 1 → ⊥) → Stray s
  stray_byte h l = ⊎_elim (λ g. absurd (l (ap (byte_at s) at ∙ (g.code (omega arith)).1))) (λ b. b) (front s)

  pub started_end : length s ≤ first → Started s
  started_end h = ⊎_elim (λ g. g) (λ b. let i = b.inside in absurd (omega arith)) (front s)

  pub started_code : 2 ≤ first → byte_at s first ≡ 1 → Started s
  started_code h l = ⊎_elim (λ g. g) (λ b. absurd (b.code (omega arith) (ap (byte_at s) (sym at) ∙ l))) (front s)

  pub first_inside : first ≤ length s
  first_inside = ⊎_elim (λ g. let i = g.inside in omega arith) (λ b. let i = b.inside in omega arith) (front s)

  -- units that were read are those after the first start code
  pub read_started : (L : ℕ) {us : List (List ℕ)} → units_in L s ≡ ok us → units_after L s first ≡ ok us
  read_started L e = ⊎_elim
      (λ g. ap (units_after L s) at ∙ sym (g.units L) ∙ e)
      (λ b. ok_refused (sym (b.units L) ∙ e))
      (front s)
