-- What the code answers, as it takes the calls below it. Assumes nothing.
--
--   wrote_short, wrote_fits     a call that wrote one output with a room: refused, or not
--   bad_range                   30
--   lines_written               the lines by the judgements that the table keeps
--   refused_both, written_both  what was done with both buffers, by how the output was written
--   no_lines                    29: no room for the lines
--   filled_range                by a table that was filled
use Rattle.std.specs.Prelude.{Ok}
use Prim.Native.Nat.{ℕ, ◌+◌, ◌-◌, ◌*◌, ◌≤◌, ◌<◌}
use mathlib.Core.Path.{◌≡◌, ap, ap₂, sym, ◌∙◌, subst}
use mathlib.Core.List.{List, [], ◌∷◌}
use mathlib.Core.Logic.{inl, inr}
use native.Mathlib.Omega.{arith}
use borrow.Author.Tests.{ltb-true, ltb-false}
use lib.ListN.{length}
use Rattle.words.specs.Tests.{◌<?◌}
use Rattle.words.specs.Refusals.{refused, ok}
use Rattle.words.specs.RefusalNumbers.{output_too_long}
use Rattle.words.specs.Lists.{each, ◌∈◌}
use Rattle.words.specs.Buffers.{overwrite, put, within, counted, leaves, Wrote, within_all, WroteAll}
use Rattle.words.proofs.Tests.{by_bool}
use Rattle.words.proofs.Refusals.{ok_same, ok_refused, refused_same}
use Rattle.words.proofs.Lists.{each_cong}
use Rattle.words.proofs.Buffers.{within_room, within_not, put_fits, write_first, refuse_all, accept_all}
use Rattle.bundles.specs.Limits.{bundle_most}
use Rattle.bundles.specs.Recordings.{Recording, sample_count}
use Rattle.bundles.specs.Readers.{first_layout}
use Rattle.tables.specs.Tables.{layout_in, recording_in, table_most, kept_count_in}
use Rattle.filling.specs.Filling.{filling, table_after}
use Rattle.filling.proofs.Promises.{table_accepted, table_means}
use Rattle.resolution_rules.specs.Ranges.{between, range_fault, joined}
use Rattle.resolution_rules.proofs.Ranges.{range_good, range_bad, by_range, range_there, between_from}
use Rattle.audit_rules.specs.Auditing.{line_size, line_of}
use Rattle.range_rules.specs.Ranges.{lines_of, range, range_call}
use Rattle.range_rules.specs.Rules.{InRange}
use Rattle.range_rules.proofs.Lines.{range_length}
use Rattle.range_rules.proofs.Calls.{within_out, within_short, within_fits, range_means}
use Rattle.judging.specs.Steps.{judgement}
use Rattle.verdicts.specs.Kept.{judgement_word, verdict_in, with_range}
use Rattle.verdicts.proofs.Ranges as judged
use Rattle.resolution.specs.Ranges.{resolve_range_in}
use Rattle.resolution.proofs.Ranges.{range_answer}
use Rattle.audit.specs.Steps.{line_for, kept_lines}
use Rattle.audit.proofs.Lining.{line_kept}

-- one output x over a buffer o
module _ (o o' x : List ℕ) where
  pub wrote_short : {m q : ℕ} → Wrote o o' (refused m q) (within (length o) (ok x)) → (length o < length x) × (m ≡ output_too_long) × (q ≡ 0) × (o' ≡ o)
  wrote_short {m} {q} w = by_bool (length o <? length x)
      (λ t.
      let e = within_not (length o) x (ltb-true _ _ t) in
      let s = refused_same (w.answer ∙ ap counted e) in
      (ltb-true _ _ t, s.0, s.1, w.buffer ∙ ap (leaves o) e))
      (λ t. ok_refused (w.answer ∙ ap counted (within_room (length o) x (ltb-false _ _ t))))

  pub wrote_fits : {c : ℕ} → Wrote o o' (ok c) (within (length o) (ok x)) → (length x ≤ length o) × (c ≡ length x) × (o' ≡ overwrite o x)
  wrote_fits {c} w = by_bool (length o <? length x)
      (λ t. ok_refused (sym (w.answer ∙ ap counted (within_not (length o) x (ltb-true _ _ t)))))
      (λ t.
      let e = within_room (length o) x (ltb-false _ _ t) in
      (ltb-false _ _ t, ok_same (w.answer ∙ ap counted e), w.buffer ∙ ap (leaves o) e))

-- 30
pub bad_range :
    (r : Recording) (first last room lines_room : ℕ) {f : ℕ} → f ≡ range_fault (sample_count r.layout) first last → (f ≡ 0 → ⊥) →
    within_all (room ∷ lines_room ∷ []) (range r first last) ≡ refused f 0
bad_range r first last room lines_room {f} e z = by_range (sample_count r.layout) first last
    (λ h. within_out r first last room lines_room h ∙ ap (λ (x : ℕ). refused x 0) (sym (e ∙ range_bad (sample_count r.layout) first last h)))
    (λ s t o. absurd (z (e ∙ range_good (sample_count r.layout) first last s t o)))

-- a range whose numbers are good, and the table that is left when the samples are judged, now
module _
    (b t : List ℕ) (first last : ℕ) (few : length b ≤ bundle_most) (large : table_most ≤ length t)
    (good : range_fault (sample_count (layout_in t)) first last ≡ 0) (now : List ℕ) (left : now ≡ with_range b t first last)
  where
    same : recording_in b now ≡ recording_in b t
    same = ap (recording_in b) left ∙ judged.range_recording b t first last

    line : (n : ℕ) → n ∈ between first last → line_for (verdict_in (kept_count_in now n)) ≡ line_of (recording_in b t) n
    line n m =
        let w = between_from first last n m in
        let k : kept_count_in now n ≡ judgement_word (judgement (recording_in b now) n) =
        ap (λ (x : List ℕ). kept_count_in x n) left ∙ judged.range_kept b t first last (judged.range_judged b t first last few large good).0 n w.1 w.2
        ∙ ap (λ (r : Recording). judgement_word (judgement r n)) (sym same) in
        line_kept b now n k ∙ ap (λ (r : Recording). line_of r n) same

    kept : kept_lines now (first - 1) last ≡ lines_of (recording_in b t) (between first last)
    unfolding kept_lines lines_of
    kept =
        let w = range_there (sample_count (layout_in t)) first last good in
        let e : first - 1 + 1 ≡ first = omega arith in
        ap (λ (k : ℕ). each (λ n. line_for (verdict_in (kept_count_in now n))) (between k last)) e
        ∙ each_cong (λ n. line_for (verdict_in (kept_count_in now n))) (line_of (recording_in b t)) (between first last) line

    lines_written :
        (o : List ℕ) → line_size * (last - (first - 1)) ≤ length o →
        (put o 0 (kept_lines now (first - 1) last) ≡ overwrite o (lines_of (recording_in b t) (between first last)))
        × (length (lines_of (recording_in b t) (between first last)) ≡ line_size * (last - (first - 1)))
    lines_written o h =
        let w = range_there (sample_count (layout_in t)) first last good in
        let x = lines_of (recording_in b t) (between first last) in
        let l : length x ≡ line_size * (last - (first - 1)) = range_length (recording_in b t) first last w.0 (omega arith) ∙ (let e : last + 1 - first ≡ last - (first - 1) = omega arith in ap (λ (k : ℕ). line_size * k) e) in
        (ap (put o 0) kept ∙ put_fits o 0 x (omega arith) ∙ write_first o x, l)

    abbrev R : Recording
    R = recording_in b t

    abbrev J : List ℕ
    J = joined (recording_in b t) (between first last)

    abbrev Ls : List ℕ
    Ls = lines_of (recording_in b t) (between first last)

    numbered : InRange (sample_count (recording_in b t).layout) first last
    unfolding recording_in
    numbered = let w = range_there (sample_count (layout_in t)) first last good in record { some = w.0; there = w.1; order = w.2 }

    -- what was done with the buffers o and l, by how the output was written over o: refused, or with room for the lines in l
    module _ (o o' l : List ℕ) where
      pub refused_both :
          {m q : ℕ} → Wrote o o' (refused m q) (within (length o) (resolve_range_in b t first last)) →
          WroteAll (o ∷ l ∷ []) (o' ∷ l ∷ []) (refused m q) (within_all (length o ∷ length l ∷ []) (range (recording_in b t) first last))
      refused_both w =
          let s = wrote_short o o' J (rw (range_answer b t first last (length o) few large good) at w) in
          rw (s.3, s.1, s.2) (refuse_all (within_short R first last (length o) (length l) numbered (inl s.0)))

      pub written_both :
          line_size * (last - (first - 1)) ≤ length l → {c : ℕ} → Wrote o o' (ok c) (within (length o) (resolve_range_in b t first last)) → (l' : List ℕ) → l' ≡ put l 0 (kept_lines now (first - 1) last) →
          WroteAll (o ∷ l ∷ []) (o' ∷ l' ∷ []) (ok (c ∷ line_size * (last - (first - 1)) ∷ [])) (within_all (length o ∷ length l ∷ []) (range (recording_in b t) first last))
      written_both room w l' e =
          let s = wrote_fits o o' J (rw (range_answer b t first last (length o) few large good) at w) in
          let x = lines_written l room in
          let n = numbered.some in
          let k = numbered.order in
          let f = within_fits R first last (length o) (length l) numbered s.0 (omega arith) in
          subst (λ (z : List ℕ). WroteAll (o ∷ l ∷ []) (o' ∷ l' ∷ []) (ok z) (within_all (length o ∷ length l ∷ []) (range (recording_in b t) first last)))
          (ap₂ (λ (y z : ℕ). y ∷ z ∷ []) (sym s.1) x.1)
          (accept_all {outs = J ∷ Ls ∷ []} f (ap₂ (λ (y z : List ℕ). y ∷ z ∷ []) s.2 (e ∙ x.0)))

    -- no room for the lines
    pub no_lines : (room lines_room : ℕ) → lines_room < line_size * (last - (first - 1)) → within_all (room ∷ lines_room ∷ []) (range (recording_in b t) first last) ≡ refused output_too_long 0
    no_lines room lines_room h =
        let n = numbered.some in
        let k = numbered.order in
        within_short R first last room lines_room numbered (inr (omega arith))

-- by the table that was filled
pub filled_range :
    (b t : List ℕ) → filling first_layout b (length t) ≡ (Ok tt) → {s : List ℕ} → s ≡ table_after first_layout b t → (first last room lines_room : ℕ) →
    within_all (room ∷ lines_room ∷ []) (range (recording_in b s) first last) ≡ range_call first_layout b first last room lines_room
filled_range b t done f first last room lines_room =
    rw (f, table_means b t done) (sym (range_means first_layout b first last room lines_room (table_accepted b t done)))
