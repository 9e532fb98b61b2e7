-- Samples that are not in the naming list of s, where the bytes of s are replaced: a range of such samples is answered as before. Assumes nothing.
--
--   line_kept       the line of such a sample
--   range_kept      the call on a recording
--   same_answers    two calls with the same answer
use Prim.Native.Nat.{ℕ, ◌≤◌, ◌<◌}
use mathlib.Core.Path.{◌≡◌, ap, ap₂, sym, ◌∙◌}
use mathlib.Core.List.{List, [], ◌∷◌, map}
use native.Mathlib.Omega.{arith}
use lib.ListN.{length, get_or, take, drop}
use lib.Seq.{take-append_seam}
use Rattle.words.specs.Refusals.{Answer, refused, ok}
use Rattle.words.specs.Buffers.{overwrite, WroteAll}
use Rattle.words.proofs.Refusals.{by_verdict, ok_same, ok_refused}
use Rattle.bundles.specs.Recordings.{Recording, sample_count, replaced}
use Rattle.resolution_rules.specs.Resolving.{judged}
use Rattle.resolution_rules.specs.Ranges.{between}
use Rattle.resolution_rules.proofs.Ranges.{by_range, between_from, joined_cong}
use Rattle.naming_list_rules.specs.Rules.{Unlisted}
use Rattle.naming_list_rules.proofs.Others.{sample_kept, resolve_other}
use Rattle.naming_list_rules.proofs.Replaced.{layout_kept}
use Rattle.audit_rules.specs.Auditing.{line_bytes, line_of}
use Rattle.range_rules.specs.Ranges.{range}
use Rattle.range_rules.specs.Rules.{InRange, SameAnswers}
use Rattle.range_rules.proofs.Lines.{lines_cong}
use Rattle.range_rules.proofs.Calls.{range_number, range_answer}

module _ (r : Recording) (s : ℕ) (new : List ℕ) where
  pub line_kept : (n : ℕ) → (n ≡ s → ⊥) → Unlisted r s n → 0 < n → n ≤ sample_count r.layout → line_of (replaced r s new) n ≡ line_of r n
  unfolding line_of line_bytes
  line_kept n other unlisted h l =
      let k = sample_kept r s new n other h l unlisted in
      by_verdict (judged r n)
      (λ m p e. rw (k.verdict, e))
      (λ e. rw (k.verdict, e, k.units e))

  pub range_kept :
      (first last : ℕ) → ((n : ℕ) → first ≤ n → n ≤ last → (n ≡ s → ⊥) × Unlisted r s n) → range (replaced r s new) first last ≡ range r first last
  range_kept first last away = by_range (sample_count r.layout) first last
      (λ h. range_number (replaced r s new) first last (rw (layout_kept r s new) h) ∙ sym (range_number r first last h))
      (λ h t o.
      let w : InRange (sample_count r.layout) first last = record { some = h; there = t; order = o } in
      range_answer (replaced r s new) first last (rw (layout_kept r s new) w)
      ∙ ap₂ (λ (x y : List ℕ). ok (x ∷ y ∷ []))
      (joined_cong (replaced r s new) r (between first last) (λ n m.
      let f = between_from first last n m in
      let a = away n f.1 f.2 in
      resolve_other r s new n a.0 a.1))
      (lines_cong (replaced r s new) r (between first last) (λ n m.
      let f = between_from first last n m in
      let a = away n f.1 f.2 in
      let l = f.2 in
      line_kept n a.0 a.1 f.0 (omega arith)))
      ∙ sym (range_answer r first last w))

-- the same answer, by two calls with two buffers each
front : (o x : List ℕ) → take (length x) (overwrite o x) ≡ x
unfolding overwrite
front o x = take-append_seam x (drop (length x) o)

-- what an answer with two outputs leaves
two : {o l o₁ l₁ : List ℕ} {a : Answer (List ℕ)} (outs : List (List ℕ)) (c d : ℕ) → WroteAll (o ∷ l ∷ []) (o₁ ∷ l₁ ∷ []) a (ok outs) → a ≡ ok (c ∷ d ∷ []) →
    (take c o₁ ≡ get_or outs 0 []) × (take d l₁ ≡ get_or outs 1 [])
two [] c d w e = let z : ◌≡◌ {A = ℕ} 0 2 = ap length (ok_same (sym w.answers ∙ e)) in absurd (omega arith)
two (x ∷ []) c d w e = let z : ◌≡◌ {A = ℕ} 1 2 = ap length (ok_same (sym w.answers ∙ e)) in absurd (omega arith)
two {o} {l} {o₁} {l₁} (x ∷ y ∷ zs) c d w e =
    let n : (length x ∷ length y ∷ map length zs) ≡ (c ∷ d ∷ []) = ok_same (sym w.answers ∙ e) in
    let i : length x ≡ c = ap (λ ns. get_or ns 0 0) n in
    let j : length y ≡ d = ap (λ ns. get_or ns 1 0) n in
    let u : o₁ ≡ overwrite o x = ap (λ os. get_or os 0 []) w.buffers in
    let v : l₁ ≡ overwrite l y = ap (λ os. get_or os 1 []) w.buffers in
    (rw (← i, u) (front o x), rw (← j, v) (front l y))

pub same_answers :
    {o o₁ o' o₁' l l₁ l' l₁' : List ℕ} {a a' : Answer (List ℕ)} (x : Answer (List (List ℕ))) → WroteAll (o ∷ l ∷ []) (o₁ ∷ l₁ ∷ []) a x →
    WroteAll (o' ∷ l' ∷ []) (o₁' ∷ l₁' ∷ []) a' x → SameAnswers a a' o₁ o₁' l₁ l₁'
same_answers (refused m p) w v = record { answer = w.answers ∙ sym v.answers; bytes = λ c d e. ok_refused (sym w.answers ∙ e) }
same_answers (ok outs) w v =
    let same = w.answers ∙ sym v.answers in
    record {
      answer = same;
      bytes = λ c d e.
          let x = two outs c d w e in
          let y = two outs c d v (sym same ∙ e) in
          (x.0 ∙ sym y.0, x.1 ∙ sym y.1);
    }
