-- The lines of samples first to last: how long they are, and that they are lines of the audit. Assumes nothing.
--
--   lines_length, range_length              13 bytes each
--   lines_append, lines_cong                of joined lists of samples; in two recordings
--   lines_upto, lines_all                   of samples 1 to the last, those of the audit
--   lines_split, lines_before, lines_after  in two, after a sample mid
--   lines_part                              of samples first to last, a part of those of the audit
--   line_within                             the line of sample n stands at 13 · (n - first)
use Prim.Native.Nat.{ℕ, ◌+◌, ◌-◌, ◌*◌, ◌≤◌, ◌<◌}
use mathlib.Core.Path.{◌≡◌, refl, ap, ap₂, sym, ◌∙◌}
use mathlib.Core.List.{List, [], ◌∷◌, ◌++◌}
use native.Mathlib.Omega.{arith}
use lib.ListN.{length, take, drop, length-append}
use lib.Seq.{take_at, drop_at}
use Rattle.words.specs.Lists.{each, upto, ◌∈◌}
use Rattle.words.specs.Bytes.{part}
use Rattle.words.proofs.Lists.{each_append, each_cong}
use Rattle.words.proofs.Joined.{part_part}
use Rattle.bundles.specs.Recordings.{Recording, sample_count}
use Rattle.resolution_rules.specs.Ranges.{between}
use Rattle.resolution_rules.proofs.Ranges.{between_length, between_split, between_all}
use Rattle.audit_rules.specs.Auditing.{line_size, line_of, lines}
use Rattle.audit_rules.proofs.Lines.{line_length, line_at_lem}
use Rattle.range_rules.specs.Ranges.{lines_of}
use Rattle.range_rules.specs.Rules.{InRange}

module _ (r : Recording) where
  pub lines_length : (ns : List ℕ) → length (lines_of r ns) ≡ line_size * length ns
  unfolding lines_of each
  lines_length [] = refl
  lines_length (n ∷ ns) =
      let e = lines_length ns in
      let w = line_length r n in
      length-append (line_of r n) (each (line_of r) ns) ∙ (omega arith)

  pub lines_append : (ns ms : List ℕ) → lines_of r (ns ++ ms) ≡ lines_of r ns ++ lines_of r ms
  unfolding lines_of
  lines_append ns ms = each_append (line_of r) ns ms

  pub lines_upto : lines_of r (upto (sample_count r.layout)) ≡ lines r
  unfolding lines_of lines
  lines_upto = refl

  pub lines_all : lines_of r (between 1 (sample_count r.layout)) ≡ lines r
  lines_all = ap (lines_of r) (between_all (sample_count r.layout)) ∙ lines_upto

  pub range_length : (first last : ℕ) → 0 < first → first ≤ last + 1 → length (lines_of r (between first last)) ≡ line_size * (last + 1 - first)
  range_length first last h l = lines_length (between first last) ∙ ap (λ (n : ℕ). line_size * n) (between_length first last h l)

  pub lines_split :
      (first mid last : ℕ) → first ≤ mid + 1 → mid ≤ last →
      lines_of r (between first last) ≡ lines_of r (between first mid) ++ lines_of r (between (mid + 1) last)
  lines_split first mid last h l = ap (lines_of r) (between_split first mid last h l) ∙ lines_append (between first mid) (between (mid + 1) last)

  -- up to mid, and after it
  module _ (first mid last : ℕ) (some : 0 < first) (from : first ≤ mid + 1) (to : mid ≤ last) where
    pub lines_before : take (line_size * (mid + 1 - first)) (lines_of r (between first last)) ≡ lines_of r (between first mid)
    lines_before =
        ap (take (line_size * (mid + 1 - first))) (lines_split first mid last from to)
        ∙ take_at (lines_of r (between first mid)) _ (line_size * (mid + 1 - first)) (range_length first mid some from)

    pub lines_after : drop (line_size * (mid + 1 - first)) (lines_of r (between first last)) ≡ lines_of r (between (mid + 1) last)
    lines_after =
        ap (drop (line_size * (mid + 1 - first))) (lines_split first mid last from to)
        ∙ drop_at (lines_of r (between first mid)) _ (line_size * (mid + 1 - first)) (range_length first mid some from)

  module _ (first last : ℕ) (w : InRange (sample_count r.layout) first last) where
    pub lines_part : lines_of r (between first last) ≡ part (lines r) (line_size * (first - 1)) (line_size * (last + 1 - first))
    lines_part =
        let s = w.some in
        let o = w.order in
        let t = w.there in
        let count = sample_count r.layout in
        let e : first - 1 + 1 ≡ first = omega arith in
        let f : first - 1 + 1 - 1 ≡ first - 1 = omega arith in
        let x : drop (line_size * (first - 1)) (lines r) ≡ lines_of r (between first count) =
        ap₂ (λ (k : ℕ) (l : List ℕ). drop (line_size * k) l) (sym f) (sym lines_all)
        ∙ lines_after 1 (first - 1) count (omega arith) (omega arith) (omega arith)
        ∙ ap (λ (k : ℕ). lines_of r (between k count)) e in
        sym (ap (take (line_size * (last + 1 - first))) x ∙ lines_before first last count s (omega arith) t)

    pub line_within : (n : ℕ) → first ≤ n → n ≤ last → part (lines_of r (between first last)) (line_size * (n - first)) line_size ≡ line_of r n
    line_within n f l =
        let s = w.some in
        let t = w.there in
        let e : line_size * (first - 1) + line_size * (n - first) ≡ line_size * (n - 1) = omega arith in
        ap (λ (x : List ℕ). part x (line_size * (n - first)) line_size) lines_part
        ∙ part_part (lines r) (line_size * (first - 1)) (line_size * (last + 1 - first)) (line_size * (n - first)) line_size (omega arith)
        ∙ ap (λ (q : ℕ). part (lines r) q line_size) e
        ∙ line_at_lem r n (omega arith) (omega arith)

pub lines_cong : (r s : Recording) (ns : List ℕ) → ((n : ℕ) → n ∈ ns → line_of r n ≡ line_of s n) → lines_of r ns ≡ lines_of s ns
unfolding lines_of
lines_cong r s ns h = each_cong (line_of r) (line_of s) ns h
