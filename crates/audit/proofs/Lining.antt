-- Lines by what a table keeps of the samples. Assumes nothing.
--
--   line_for_lem, line_kept                            the line of a judgement as the code has it; of a sample whose judgement is kept
--   kept_none, kept_length, kept_short                 no sample; how long they are; no room
--   Lining, lining_start, -room, -more, -length, -end  a loop over the samples
use Rattle.std.specs.Prelude.{Err, Ok, Result}
use Prim.Native.Nat.{ℕ, zero, suc, ◌+◌, ◌-◌, ◌*◌, ◌≤◌, ◌<◌}
use mathlib.Core.Path.{◌≡◌, refl, ap, sym, ◌∙◌}
use mathlib.Core.List.{List, [], ◌∷◌, ◌++◌, append-nil}
use native.Mathlib.Omega.{arith}
use lib.ListN.{length, length-append}
use Rattle.words.specs.Refusals.{Answer, Verdict, refused, ok, ◌and_then◌}
use Rattle.words.specs.Lists.{each}
use Rattle.words.specs.Buffers.{write_at, put}
use Rattle.words.proofs.Lists.{each_append}
use Rattle.words.proofs.Buffers.{write_none, write_length, put_fits, put_not, put_next}
use Rattle.bundles.specs.Recordings.{Recording}
use Rattle.tables.specs.Tables.{recording_in, kept_count_in}
use Rattle.resolution_rules.specs.Resolving.{judged, delivered}
use Rattle.resolution_rules.specs.Ranges.{between}
use Rattle.resolution_rules.proofs.Ranges.{between_none, between_more}
use Rattle.judging.specs.Steps.{amount_for, judgement}
use Rattle.verdicts.specs.Kept.{judgement_word, units_of, verdict_in, kept_answer}
use Rattle.verdicts.proofs.Keeping.{word_verdict}
use Rattle.audit_rules.specs.Auditing.{line_size, line_bytes, line_of}
use Rattle.audit_rules.proofs.Lines.{line_bytes_length}
use Rattle.audit.specs.Steps.{verdict_of, units_in, line_for, kept_lines}
use Rattle.numbers.specs.declared.Refusal.{Refusal}

pub line_for_lem : (x : Result ℕ Refusal) → line_bytes (verdict_of x) (units_in x) ≡ line_for (kept_answer x)
line_for_lem (Err f) = refl
line_for_lem (Ok k) = refl

-- a sample whose judgement is kept
judged_line : (r : Recording) (n : ℕ) → line_for (units_of (judgement r n)) ≡ line_of r n
unfolding judgement line_of line_bytes
judged_line r n = go (judged r n)
  where
    go : (v : Verdict) → line_for (units_of (v and_then ok (amount_for r n))) ≡ line_bytes v (length (delivered r n))
    go (refused m q) = refl
    go (ok u) = refl

pub line_kept : (b t : List ℕ) (n : ℕ) → kept_count_in t n ≡ judgement_word (judgement (recording_in b t) n) → line_for (verdict_in (kept_count_in t n)) ≡ line_of (recording_in b t) n
line_kept b t n e = ap (λ (x : ℕ). line_for (verdict_in x)) e ∙ ap line_for (word_verdict b t n) ∙ judged_line (recording_in b t) n

for_length : (a : Answer ℕ) → length (line_for a) ≡ line_size
for_length (refused n p) = line_bytes_length (refused n p) 0
for_length (ok k) = line_bytes_length (ok tt) k

module _ (t : List ℕ) (skipped : ℕ) where
  none : (last : ℕ) → last ≤ skipped → kept_lines t skipped last ≡ []
  unfolding kept_lines each
  none last h = rw (between_none (skipped + 1) last (omega arith))

  one : (n : ℕ) → skipped ≤ n → kept_lines t skipped (n + 1) ≡ kept_lines t skipped n ++ line_for (verdict_in (kept_count_in t (n + 1)))
  unfolding kept_lines each
  one n h = rw (between_more (skipped + 1) n (omega arith), each_append (λ m. line_for (verdict_in (kept_count_in t m))) (between (skipped + 1) n) ((n + 1) ∷ []), append-nil (line_for (verdict_in (kept_count_in t (n + 1)))))

  pub kept_none : (last : ℕ) → last ≤ skipped → (o : List ℕ) → o ≡ put o 0 (kept_lines t skipped last)
  kept_none last h o = rw (none last h, put_fits o 0 [] (omega arith)) (write_none o 0)

-- a loop that turned o into out and has come to sample n
pub record Lining (t : List ℕ) (skipped last : ℕ) (o out : List ℕ) (n at : ℕ) : Type 0 where
  pub wrote : out ≡ write_at o 0 (kept_lines t skipped n)
  pub size : length (kept_lines t skipped n) ≡ at
  pub place : at ≡ line_size * (n - skipped)
  pub from : skipped ≤ n
  pub to : n ≤ last
  pub fits : line_size * (last - skipped) ≤ length o

module _ (t : List ℕ) (skipped last : ℕ) (o : List ℕ) where
  pub lining_start : skipped < last → line_size * (last - skipped) ≤ length o → Lining t skipped last o o skipped 0
  lining_start h fits =
      let e = none t skipped skipped (omega arith) in
      record {
        wrote = write_none o 0 ∙ ap (write_at o 0) (sym e);
        size = ap length e;
        place = omega arith;
        from = omega arith;
        to = omega arith;
        fits = fits;
      }

  module _ (out : List ℕ) (n at : ℕ) (w : Lining t skipped last o out n at) where
    pub lining_length : length out ≡ length o
    lining_length =
        let s = w.size in
        let p = w.place in
        let i = w.to in
        let f = w.fits in
        ap length w.wrote ∙ write_length o 0 (kept_lines t skipped n) (omega arith)

    module _ (again : n < last) where
      pub lining_room : at + line_size ≤ length o
      lining_room = let p = w.place in let f = w.fits in let h = w.from in omega arith

      pub lining_more : {a : Answer ℕ} → a ≡ verdict_in (kept_count_in t (n + 1)) → (out' : List ℕ) → out' ≡ put out at (line_for a) → Lining t skipped last o out' (n + 1) (at + line_size)
      lining_more {a} e out' g =
          let h = w.from in
          let s = w.size in
          let p = w.place in
          let r = lining_room in
          let l = for_length a in
          let m : kept_lines t skipped (n + 1) ≡ kept_lines t skipped n ++ line_for a = one t skipped n h ∙ ap (λ (x : Answer ℕ). kept_lines t skipped n ++ line_for x) (sym e) in
          record {
            wrote = g ∙ ap (λ (x : List ℕ). put x at (line_for a)) w.wrote ∙ put_next o (kept_lines t skipped n) (line_for a) at (sym s) (omega arith) ∙ ap (write_at o 0) (sym m);
            size = ap length m ∙ length-append (kept_lines t skipped n) (line_for a) ∙ (let z : length (kept_lines t skipped n) + length (line_for a) ≡ at + line_size = omega arith in z);
            place = omega arith;
            from = omega arith;
            to = omega arith;
            fits = w.fits;
          }

    pub lining_end : last ≤ n → out ≡ put o 0 (kept_lines t skipped last)
    lining_end h =
        let i = w.to in
        let e : n ≡ last = omega arith in
        let s : length (kept_lines t skipped last) ≡ at = rw e at w.size in
        let p = w.place in
        let f = w.fits in
        rw e at w.wrote ∙ sym (put_fits o 0 (kept_lines t skipped last) (omega arith))

-- the length of all, and no room for it
pub kept_length : (t : List ℕ) (skipped k : ℕ) → length (kept_lines t skipped (skipped + k)) ≡ line_size * k
kept_length t skipped zero = ap length (none t skipped (skipped + zero) (omega arith))
kept_length t skipped (suc k) =
    let e : skipped + suc k ≡ skipped + k + 1 = omega arith in
    let b = kept_length t skipped k in
    let a = line_for (verdict_in (kept_count_in t (skipped + k + 1))) in
    let l = for_length (verdict_in (kept_count_in t (skipped + k + 1))) in
    rw (e, one t skipped (skipped + k) (omega arith), length-append (kept_lines t skipped (skipped + k)) a) (omega arith)

pub kept_short : (t : List ℕ) (skipped last : ℕ) (o : List ℕ) → skipped < last → length o < line_size * (last - skipped) → o ≡ put o 0 (kept_lines t skipped last)
kept_short t skipped last o h l =
    let e : skipped + (last - skipped) ≡ last = omega arith in
    let s = rw e at (kept_length t skipped (last - skipped)) in
    sym (put_not o 0 (kept_lines t skipped last) (omega arith))
