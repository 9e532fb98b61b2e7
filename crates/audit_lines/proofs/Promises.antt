-- What is promised of the lines that an audit left, as `line_of` reads them. `out` starts with the lines of the recording r that a bundle b means, which
-- a sound reader accepts: it is the buffer after the call, or any part of it with all lines. `line_read out r n` is what `line_of` answers for sample n with its length.
-- Assumes nothing.
--
--   line_holds               what line n says of sample n holds of it
--   line_passed_exactly      passed with as many units as are delivered, exactly if the sample has bytes and its whole length is good
--   line_empty_exactly       empty exactly if the sample's length is 0
--   line_refused_exactly     refused with a number and a place exactly if the sample is refused with that number at that place
--   audit_left               a call that answered left the lines of the recording that the bundle means at the start of the buffer
--   no_line                  a line that is not there is no line
use Prim.Native.Nat.{ℕ, ◌+◌, ◌-◌, ◌*◌, ◌≤◌, ◌<◌}
use mathlib.Core.Path.{◌≡◌, refl, ap, ap₂, sym, ◌∙◌}
use mathlib.Core.List.{List, [], ◌++◌}
use mathlib.Core.Logic.{◌⊎◌, inl, inr}
use native.Mathlib.Omega.{arith}
use lib.ListN.{length, take, drop, take-append-drop, length-drop, length-take}
use lib.Seq.{take_at, take-append-le, drop-append-le}
use Rattle.words.specs.Refusals.{Answer, refused, ok, Verdict}
use Rattle.words.specs.Bytes.{part}
use Rattle.words.specs.Buffers.{overwrite, Wrote}
use Rattle.words.proofs.Tests.{by_number}
use Rattle.words.proofs.Refusals.{ok_refused, ok_same}
use Rattle.numbers.specs.declared.Refusal.{Refusal}
use Rattle.bundles.specs.Recordings.{Recording, sample_count, content_of}
use Rattle.bundles.specs.Readers.{Reader}
use Rattle.resolution_rules.specs.Resolving.{delivered, judged}
use Rattle.resolution_rules.specs.Readers.{Sound}
use Rattle.tally.specs.declared.Outcome.{Outcome}
use Rattle.audit_rules.specs.Auditing.{line_size, lines, audit_call}
use Rattle.audit_rules.specs.Rules.{line_at, SampleLine}
use Rattle.audit_rules.proofs.Refusals.{number_some, place_inside}
use Rattle.audit_rules.proofs.Outcomes.{empty_good}
use Rattle.audit_rules.proofs.Lines.{lines_length}
use Rattle.audit_rules.proofs.Promises.{every_sample_one_line, audited_exactly}
use Rattle.audit_lines.specs.Lines.{line_there, line_says}
use Rattle.audit_lines.specs.Rules.{line_read, LineHolds}
use Rattle.audit_lines.specs.declared.Line as line
use Rattle.audit_lines.specs.declared.Line.TheVariants.{Passed, Empty, Refused, NoLine}
use Rattle.audit_lines.proofs.Reading.{says_gone, says_there, from_passed, from_empty, from_refused, there_none, there_past, there_is}

-- a part at the start
part_front : (a b : List ℕ) (p n : ℕ) → p + n ≤ length a → part (a ++ b) p n ≡ part a p n
part_front a b p n h = rw (drop-append-le p a b (omega arith)) (take-append-le n (drop p a) b (rw (length-drop p a) (omega arith)))

-- the three answers differ
module _ {G : Type 0} where
  passed_empty : {k : ℕ} → Passed k ≡ Empty → G
  passed_empty e = let z : ◌≡◌ {A = ℕ} 0 1 = cc in absurd (omega arith)

  passed_refused : {k : ℕ} {f : Refusal} → Passed k ≡ Refused f → G
  passed_refused e = let z : ◌≡◌ {A = ℕ} 0 1 = cc in absurd (omega arith)

  empty_refused : {f : Refusal} → Empty ≡ Refused f → G
  empty_refused e = let z : ◌≡◌ {A = ℕ} 0 1 = cc in absurd (omega arith)

passed_same : {k m : ℕ} → Passed k ≡ Passed m → k ≡ m
passed_same e = cc

refused_same : {f g : Refusal} → Refused f ≡ Refused g → f ≡ g
refused_same e = cc

refusal_same : (f g : Refusal) → f.number ≡ g.number → f.place.0 ≡ g.place.0 → f ≡ g
refusal_same f g a b = ap₂ (λ (m p : ℕ). refusal_of m p) a b
  where
    refusal_of : ℕ → ℕ → Refusal
    refusal_of m p = record { number = m; place = record { 0 = p } }

module _ (r : Recording) (n : ℕ) where
  -- a line that is there has bytes
  whole : (s : List ℕ) → length s ≡ line_size → length s ≡ 0 → ⊥
  whole s e z = absurd (omega arith)

  -- from the line of the sample
  says : (s : List ℕ) {o : Outcome} → SampleLine r n s o → LineHolds r n (line_says s (length (content_of r n)))
  says s (SampleLine.good h j w) = rw (says_there s (length (content_of r n)) (whole s w.size), w.refusal, w.place, w.units, from_passed (length (delivered r n)) (length (content_of r n)) (λ z. absurd (omega arith))) (LineHolds.passed h j)
  says s (SampleLine.empty z w) = rw (says_there s (length (content_of r n)) (whole s w.size), w.refusal, w.place, w.units, from_empty (length (content_of r n)) z) (LineHolds.empty z)
  says s (SampleLine.bad {m} {p} j k w) =
      let a = number_some r n k in
      rw (says_there s (length (content_of r n)) (whole s w.size), w.refusal, w.place, w.units, from_refused m p (length (content_of r n)) (λ z. absurd (omega arith)) k.0 (place_inside r n k)) (LineHolds.bad (record { number = m; place = record { 0 = p } }) j)

  -- each answer from what holds, and what holds from the answer
  reads_passed : (l : line.Line) → LineHolds r n l → 0 < length (content_of r n) → judged r n ≡ ok tt → l ≡ Passed (length (delivered r n))
  reads_passed l (LineHolds.passed h j) h' j' = refl
  reads_passed l (LineHolds.empty z) h' j' = absurd (omega arith)
  reads_passed l (LineHolds.bad f j) h' j' = ok_refused (sym j ∙ j')

  passed_from : (l : line.Line) → LineHolds r n l → {k : ℕ} → l ≡ Passed k → (0 < length (content_of r n)) × (judged r n ≡ ok tt) × (k ≡ length (delivered r n))
  passed_from l (LineHolds.passed h j) e = (h, j, passed_same (sym e))
  passed_from l (LineHolds.empty z) e = passed_empty (sym e)
  passed_from l (LineHolds.bad f j) e = passed_refused (sym e)

  reads_empty : (l : line.Line) → LineHolds r n l → length (content_of r n) ≡ 0 → l ≡ Empty
  reads_empty l (LineHolds.passed h j) z = absurd (omega arith)
  reads_empty l (LineHolds.empty z) z' = refl
  reads_empty l (LineHolds.bad f j) z = ok_refused (sym j ∙ empty_good r n z)

  empty_from : (l : line.Line) → LineHolds r n l → l ≡ Empty → length (content_of r n) ≡ 0
  empty_from l (LineHolds.passed h j) e = passed_empty e
  empty_from l (LineHolds.empty z) e = z
  empty_from l (LineHolds.bad f j) e = empty_refused (sym e)

  reads_refused : (l : line.Line) → LineHolds r n l → (f : Refusal) → judged r n ≡ refused f.number f.place.0 → l ≡ Refused f
  reads_refused l (LineHolds.passed h j) f j' = ok_refused (sym j' ∙ j)
  reads_refused l (LineHolds.empty z) f j' = ok_refused (sym j' ∙ empty_good r n z)
  reads_refused l (LineHolds.bad g j) f j' =
      let e : ◌≡◌ {A = Verdict} (refused g.number g.place.0) (refused f.number f.place.0) = sym j ∙ j' in
      let a : g.number ≡ f.number = cc in
      let b : g.place.0 ≡ f.place.0 = cc in
      ap Refused (refusal_same g f a b)

  refused_from : (l : line.Line) → LineHolds r n l → (f : Refusal) → l ≡ Refused f → judged r n ≡ refused f.number f.place.0
  refused_from l (LineHolds.passed h j) f e = passed_refused e
  refused_from l (LineHolds.empty z) f e = empty_refused e
  refused_from l (LineHolds.bad g j) f e = j ∙ ap (λ (x : Refusal). refused x.number x.place.0) (refused_same e)

-- a sample of an accepted bundle, and what starts with the lines of all
module _
    (reader : Reader) (sound : Sound reader) (b : List ℕ) (r : Recording) (accepted : reader.means b ≡ ok r) (out : List ℕ)
    (starts : take (length (lines r)) out ≡ lines r) (n : ℕ) (some : 0 < n) (there : n ≤ sample_count r.layout)
  where
    line_there_lem : line_there out n ≡ line_at (lines r) n
    line_there_lem =
        let l = lines_length r in
        let m : length (take (length (lines r)) out) ≡ length (lines r) = ap length starts in
        let k = length-take (length (lines r)) out in
        let s : out ≡ lines r ++ drop (length (lines r)) out = sym (take-append-drop (length (lines r)) out) ∙ ap (λ (x : List ℕ). x ++ drop (length (lines r)) out) starts in
        there_is out n (λ z. absurd (omega arith)) (omega arith)
        ∙ ap (λ (x : List ℕ). line_at x n) s
        ∙ part_front (lines r) (drop (length (lines r)) out) (line_size * (n - 1)) line_size (omega arith)

    pub line_holds : LineHolds r n (line_read out r n)
    line_holds = rw line_there_lem (says r n (line_at (lines r) n) ((every_sample_one_line reader sound b r accepted (line_size * sample_count r.layout) (omega arith)).1.line n some there))

    pub line_passed_exactly :
        ((k : ℕ) → line_read out r n ≡ Passed k → (0 < length (content_of r n)) × (judged r n ≡ ok tt) × (k ≡ length (delivered r n)))
        × ((0 < length (content_of r n)) × (judged r n ≡ ok tt) → line_read out r n ≡ Passed (length (delivered r n)))
    line_passed_exactly = (λ k e. passed_from r n (line_read out r n) line_holds e, λ w. reads_passed r n (line_read out r n) line_holds w.0 w.1)

    pub line_empty_exactly : (line_read out r n ≡ Empty → length (content_of r n) ≡ 0) × (length (content_of r n) ≡ 0 → line_read out r n ≡ Empty)
    line_empty_exactly = (empty_from r n (line_read out r n) line_holds, reads_empty r n (line_read out r n) line_holds)

    pub line_refused_exactly : (f : Refusal)
        → (line_read out r n ≡ Refused f → judged r n ≡ refused f.number f.place.0)
        × (judged r n ≡ refused f.number f.place.0 → line_read out r n ≡ Refused f)
    line_refused_exactly f = (refused_from r n (line_read out r n) line_holds f, reads_refused r n (line_read out r n) line_holds f)

-- the buffer after a call that answered
overwrite_front : (o o' out s : List ℕ) → o' ≡ overwrite o out → out ≡ s → take (length s) o' ≡ s
unfolding overwrite
overwrite_front o o' out s e f = rw (e, f) (take_at s (drop (length s) o) (length s) refl)

module _ (reader : Reader) (b o o' : List ℕ) (count : ℕ) where
  left_by : (a : Answer (List ℕ)) → audit_call reader b (length o) ≡ a → Wrote o o' (ok count) a → (r : Recording) × (reader.means b ≡ ok r) × (count ≡ length (lines r)) × (take (length (lines r)) o' ≡ lines r)
  left_by (refused m p) e w = ok_refused (sym w.answer)
  left_by (ok out) e w =
      let x = (audited_exactly reader b (length o) out).0 e in
      let s : out ≡ lines x.recording = x.writes in
      (x.recording, x.means, ok_same w.answer ∙ ap length s, overwrite_front o o' out (lines x.recording) w.buffer s)

  pub audit_left : Wrote o o' (ok count) (audit_call reader b (length o)) → (r : Recording) × (reader.means b ≡ ok r) × (count ≡ length (lines r)) × (take (length (lines r)) o' ≡ lines r)
  audit_left = left_by (audit_call reader b (length o)) refl

-- a line that is not there
pub no_line : (out : List ℕ) (n size : ℕ) → (n ≡ 0) ⊎ (length out < line_size * n) → line_says (line_there out n) size ≡ NoLine
no_line out n size (inl z) = rw (there_none out n z) (says_gone [] size refl)
no_line out n size (inr l) = by_number n
    (λ z. rw (there_none out n z) (says_gone [] size refl))
    (λ k z. rw (there_past out n (λ e. absurd (omega arith)) l) (says_gone [] size refl))
