-- The steps of the code. Assumes nothing.
--
--   put_three                                              three writes, one after the other
--   judgements_kept                                        the judgements are there after all samples are judged
--   line_judged, outcome_judged                            the line and the outcome of a sample that was judged
--   Auditing, auditing_start, -length, -room, -more, -end  a loop over the samples
use Rattle.std.specs.Prelude.{Err, Ok, Result}
use Prim.Native.Nat.{ℕ, ◌+◌, ◌*◌, ◌≤◌, ◌<◌}
use mathlib.Core.Path.{◌≡◌, ap, sym, ◌∙◌}
use mathlib.Core.List.{List, [], ◌++◌}
use native.Mathlib.Omega.{arith}
use borrow.Author.Tests.{eq-eqb, ne_eqb}
use lib.ListN.{length, length-append}
use Rattle.words.specs.Refusals.{Answer}
use Rattle.words.specs.Bytes.{bytes}
use Rattle.words.specs.Buffers.{write_at, overwrite, put}
use Rattle.words.proofs.Tests.{by_number}
use Rattle.words.proofs.Bytes.{bytes_length}
use Rattle.words.proofs.Numbered.{put_put}
use Rattle.words.proofs.Buffers.{write_none, write_first, write_length}
use Rattle.bundles.specs.Limits.{bundle_most, sample_most}
use Rattle.bundles.specs.Recordings.{Recording, sample_count, content_of}
use Rattle.tables.specs.Tables.{layout_in, recording_in, kept_count_in, table_most}
use Rattle.tables.proofs.Layouts.{samples_most}
use Rattle.judging.specs.Steps.{judgement}
use Rattle.verdicts.specs.Kept.{units_of, verdict_in, kept_answer, with_judgements}
use Rattle.verdicts.proofs.Keeping.{kept_judgement, all_layout, all_recording, word_verdict, units_refused, units_good}
use Rattle.tally.specs.Tallies.{tallied, raised_by}
use Rattle.tally.specs.declared.Tally.{Tally}
use Rattle.numbers.specs.Places.{place_size}
use Rattle.audit_rules.specs.Auditing.{refusal_size, units_size, line_size, line_bytes, outcome_of, line_of, lines, tally}
use Rattle.audit_rules.proofs.Outcomes.{outcome_empty, outcome_passed, outcome_refused}
use Rattle.audit_rules.proofs.Lines.{line_length, joined_length}
use Rattle.audit_rules.proofs.Steps.{first_lines, first_tally, lines_start, lines_put, lines_end, tally_start, tally_more, tally_end}
use Rattle.audit.specs.Steps.{verdict_of, units_in, outcome_in, JudgementsKept}
use Rattle.numbers.specs.declared.Refusal.{Refusal}

-- writes, one after the other
pub put_three : (o : List ℕ) (at m p units : ℕ) → at + line_size ≤ length o
    → put (put (put o at (bytes refusal_size m)) (at + refusal_size) (bytes place_size p)) (at + refusal_size + place_size) (bytes units_size units)
    ≡ put o at (bytes refusal_size m ++ bytes place_size p ++ bytes units_size units)
put_three o at m p units h =
    let a = bytes refusal_size m in
    let b = bytes place_size p in
    let c = bytes units_size units in
    let x = bytes_length refusal_size m in
    let y = bytes_length place_size p in
    let z = bytes_length units_size units in
    let s = length-append a b in
    let t = length-append (a ++ b) c in
    ap (λ (w : List ℕ). put w (at + refusal_size + place_size) c) (put_put o a b at (at + refusal_size) (omega arith) (omega arith))
    ∙ put_put o (a ++ b) c at (at + refusal_size + place_size) (omega arith) (omega arith)

-- after all are judged
pub judgements_kept : (b t now : List ℕ) → now ≡ with_judgements b t → length b ≤ bundle_most → table_most ≤ length t → JudgementsKept b now
judgements_kept b t now e few room n h i =
    let l : n ≤ sample_count (layout_in t) = rw (e, all_layout b t) at i in
    rw (e, all_recording b t) (kept_judgement b t few room n h l)

-- a sample that was judged, by what is kept beside it
module _ (b t : List ℕ) (kept : JudgementsKept b t) (n : ℕ) (more : 0 < n) (there : n ≤ sample_count (layout_in t)) where
  kept_units_lem : {a : Answer ℕ} → a ≡ verdict_in (kept_count_in t n) → units_of (judgement (recording_in b t) n) ≡ a
  kept_units_lem e = sym (e ∙ ap verdict_in (kept n more there) ∙ word_verdict b t n)

  pub line_judged : (x : Result ℕ Refusal) → kept_answer x ≡ verdict_in (kept_count_in t n) → line_bytes (verdict_of x) (units_in x) ≡ line_of (recording_in b t) n
  unfolding line_of line_bytes
  line_judged (Err f) e = rw (units_refused (recording_in b t) n (kept_units_lem e))
  line_judged (Ok k) e = let w = units_good (recording_in b t) n (kept_units_lem e) in rw (w.0, w.1)

  pub outcome_judged : (x : Result ℕ Refusal) → kept_answer x ≡ verdict_in (kept_count_in t n) → outcome_in x (length (content_of (recording_in b t) n)) ≡ outcome_of (recording_in b t) n
  outcome_judged (Err f) e = sym (outcome_refused (recording_in b t) n (units_refused (recording_in b t) n (kept_units_lem e)))
  outcome_judged (Ok k) e =
      let r = recording_in b t in
      let size = length (content_of r n) in
      by_number size
      (λ z. rw (eq-eqb size 0 z) (sym (outcome_empty r n z)))
      (λ i z. rw (ne_eqb size 0 (λ y. absurd (omega arith))) (sym (outcome_passed r n (omega arith) (units_good r n (kept_units_lem e)).0)))

-- a loop over the samples that turned o into out: the first n have their lines, and t is their tally
pub record Auditing (r : Recording) (o : List ℕ) (n : ℕ) (out : List ℕ) (t : Tally) : Type 0 where
  pub few : sample_count r.layout ≤ sample_most
  pub fits : line_size * sample_count r.layout ≤ length o
  pub inside : n ≤ sample_count r.layout
  pub wrote : out ≡ write_at o 0 (first_lines r n)
  pub counts : t ≡ first_tally r n

pub auditing_start : (b t o : List ℕ) (u : Tally) → line_size * sample_count (recording_in b t).layout ≤ length o → u ≡ tallied [] → Auditing (recording_in b t) o 0 o u
unfolding recording_in
auditing_start b t o u h e =
    record {
      few = samples_most t;
      fits = h;
      inside = omega arith;
      wrote = write_none o 0 ∙ ap (write_at o 0) (sym (lines_start (recording_in b t)));
      counts = e ∙ sym (tally_start (recording_in b t));
    }

module _ (r : Recording) (o : List ℕ) (n : ℕ) (out : List ℕ) (t : Tally) (w : Auditing r o n out t) where
  pub auditing_length : length out ≡ length o
  auditing_length =
      let a = joined_length (line_of r) (line_length r) n in
      let i = w.inside in
      let f = w.fits in
      ap length w.wrote ∙ write_length o 0 (first_lines r n) (omega arith)

  -- a sample more
  module _ (more : n < sample_count r.layout) where
    pub auditing_room : line_size * n + line_size ≤ length out
    auditing_room = let l = auditing_length in let f = w.fits in omega arith

    pub auditing_more : (out' : List ℕ) (t' : Tally) → out' ≡ put out (line_size * n) (line_of r (n + 1)) → t' ≡ raised_by (outcome_of r (n + 1)) t → Auditing r o (n + 1) out' t'
    auditing_more out' t' e f =
        let s = w.few in
        let h = w.fits in
        record {
          few = s;
          fits = h;
          inside = omega arith;
          wrote = e ∙ ap (λ (x : List ℕ). put x (line_size * n) (line_of r (n + 1))) w.wrote ∙ lines_put r o n (omega arith);
          counts = f ∙ ap (raised_by (outcome_of r (n + 1))) w.counts ∙ sym (tally_more r n (omega arith));
        }

  -- no sample more
  pub auditing_end : sample_count r.layout ≤ n → (t ≡ tally r) × (out ≡ overwrite o (lines r))
  auditing_end h =
      let i = w.inside in
      let e : n ≡ sample_count r.layout = omega arith in
      (w.counts ∙ tally_end r n e, w.wrote ∙ ap (write_at o 0) (lines_end r n e) ∙ write_first o (lines r))
