-- A range in two, and one sample of it. Assumes nothing.
--
--   joined_split               the joined output in two, after a sample mid
--   joined_first, lines_first  the output and the lines of the first, then of those after it
--   joined_sample              what stands before, of, and after sample n
--   joined_one, lines_one      samples n to n
--   whole_of                   two ranges, one right after the other, answered: so is the range of both, if there is room
--   parts_of_lem               a range answered: so are its two parts
use Prim.Native.Nat.{ℕ, ◌+◌, ◌-◌, ◌≤◌, ◌<◌}
use mathlib.Core.Path.{◌≡◌, ap, ap₂, sym, ◌∙◌}
use mathlib.Core.List.{List, [], ◌∷◌, ◌++◌, append-nil}
use native.Mathlib.Omega.{arith}
use lib.ListN.{length, length-append}
use Rattle.words.specs.Refusals.{ok}
use Rattle.words.specs.Lists.{each}
use Rattle.bundles.specs.Recordings.{Recording}
use Rattle.bundles.specs.Readers.{Reader}
use Rattle.resolution_rules.specs.Calls.{resolve}
use Rattle.resolution_rules.specs.Ranges.{between, given, joined}
use Rattle.resolution_rules.proofs.Ranges.{between_one, between_first, between_split, joined_append}
use Rattle.audit_rules.specs.Auditing.{line_of}
use Rattle.range_rules.specs.Ranges.{lines_of, range_call}
use Rattle.range_rules.proofs.Lines.{range_length, lines_split}
use Rattle.range_rules.proofs.Calls.{outputs, range_fits, given_because, given_here}

module _ (r : Recording) where
  pub joined_split :
      (first mid last : ℕ) → first ≤ mid + 1 → mid ≤ last →
      joined r (between first last) ≡ joined r (between first mid) ++ joined r (between (mid + 1) last)
  joined_split first mid last h l = ap (joined r) (between_split first mid last h l) ∙ joined_append r (between first mid) (between (mid + 1) last)

  -- the first of them, then those after it
  pub joined_first : (n last : ℕ) → 0 < n → n ≤ last → joined r (between n last) ≡ given (resolve r n) ++ joined r (between (n + 1) last)
  unfolding joined each
  joined_first n last h l = ap (joined r) (between_first n last h l)

  pub lines_first : (n last : ℕ) → 0 < n → n ≤ last → lines_of r (between n last) ≡ line_of r n ++ lines_of r (between (n + 1) last)
  unfolding lines_of each
  lines_first n last h l = ap (lines_of r) (between_first n last h l)

  pub joined_sample :
      (first n last : ℕ) → 0 < n → first ≤ n → n ≤ last →
      joined r (between first last) ≡ joined r (between first (n - 1)) ++ (given (resolve r n) ++ joined r (between (n + 1) last))
  joined_sample first n last h f l =
      let e : n - 1 + 1 ≡ n = omega arith in
      joined_split first (n - 1) last (omega arith) (omega arith)
      ∙ ap (λ (k : ℕ). joined r (between first (n - 1)) ++ joined r (between k last)) e
      ∙ ap (λ (x : List ℕ). joined r (between first (n - 1)) ++ x) (joined_first n last h l)

  pub joined_one : (n : ℕ) → 0 < n → joined r (between n n) ≡ given (resolve r n)
  unfolding joined each
  joined_one n h = ap (joined r) (between_one n h) ∙ append-nil (given (resolve r n))

  pub lines_one : (n : ℕ) → 0 < n → lines_of r (between n n) ≡ line_of r n
  unfolding lines_of each
  lines_one n h = ap (lines_of r) (between_one n h) ∙ append-nil (line_of r n)

-- the call on a bundle, for first to mid, mid + 1 to last, and first to last
module _ (reader : Reader) (b : List ℕ) (first mid last : ℕ) (f : first ≤ mid) (l : mid < last) where
  pub whole_of :
      (room₁ lines_room₁ room₂ lines_room₂ room lines_room : ℕ) (out₁ ls₁ out₂ ls₂ : List ℕ) →
      range_call reader b first mid room₁ lines_room₁ ≡ ok (out₁ ∷ ls₁ ∷ []) → range_call reader b (mid + 1) last room₂ lines_room₂ ≡ ok (out₂ ∷ ls₂ ∷ []) →
      length (out₁ ++ out₂) ≤ room → length (ls₁ ++ ls₂) ≤ lines_room →
      range_call reader b first last room lines_room ≡ ok ((out₁ ++ out₂) ∷ (ls₁ ++ ls₂) ∷ [])
  whole_of room₁ lines_room₁ room₂ lines_room₂ room lines_room out₁ ls₁ out₂ ls₂ p q i j =
      let v = given_because reader b first mid room₁ lines_room₁ (out₁ ∷ ls₁ ∷ []) p in
      let r = v.recording in
      let g = v.gives in
      let k = given_here reader b (mid + 1) last room₂ lines_room₂ (out₂ ∷ ls₂ ∷ []) v.means q in
      let a = outputs g in
      let c = outputs k in
      let x : out₁ ++ out₂ ≡ joined r (between first last) =
      ap₂ (λ (s t : List ℕ). s ++ t) a.0 c.0 ∙ sym (joined_split r first mid last (omega arith) (omega arith)) in
      let y : ls₁ ++ ls₂ ≡ lines_of r (between first last) =
      ap₂ (λ (s t : List ℕ). s ++ t) a.1 c.1 ∙ sym (lines_split r first mid last (omega arith) (omega arith)) in
      let s = g.within.some in
      let n = range_length r first last s (omega arith) in
      let d = ap length y in
      rw (x, y) (range_fits reader b first last room lines_room r v.means
      (record { some = s; there = k.within.there; order = omega arith }) (rw x at i) (omega arith))

  pub parts_of_lem :
      (room lines_room : ℕ) (out ls : List ℕ) → range_call reader b first last room lines_room ≡ ok (out ∷ ls ∷ []) →
      (out₁ : List ℕ) × (ls₁ : List ℕ) × (out₂ : List ℕ) × (ls₂ : List ℕ) × (range_call reader b first mid room lines_room ≡ ok (out₁ ∷ ls₁ ∷ []))
      × (range_call reader b (mid + 1) last room lines_room ≡ ok (out₂ ∷ ls₂ ∷ [])) × (out ≡ out₁ ++ out₂) × (ls ≡ ls₁ ++ ls₂)
  parts_of_lem room lines_room out ls p =
      let v = given_because reader b first last room lines_room (out ∷ ls ∷ []) p in
      let r = v.recording in
      let g = v.gives in
      let s = g.within.some in
      let t = g.within.there in
      let fits = g.fits in
      let lines_fit = g.lines_fit in
      let x = joined_split r first mid last (omega arith) (omega arith) in
      let n = ap length x ∙ length-append (joined r (between first mid)) (joined r (between (mid + 1) last)) in (
        joined r (between first mid),
        lines_of r (between first mid),
        joined r (between (mid + 1) last),
        lines_of r (between (mid + 1) last),
        range_fits reader b first mid room lines_room r v.means (record { some = s; there = omega arith; order = f }) (omega arith) (omega arith),
        range_fits reader b (mid + 1) last room lines_room r v.means (record { some = omega arith; there = t; order = omega arith }) (omega arith) (omega arith),
        (outputs g).0 ∙ x,
        (outputs g).1 ∙ lines_split r first mid last (omega arith) (omega arith),
      )
