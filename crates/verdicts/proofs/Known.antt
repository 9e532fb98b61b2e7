-- What a number tells of a sample, and a survey with one sample more. Assumes nothing.
--
--   low, high                      two numbers in one, taken apart
--   tells_none, -refused, -formed  0; a refusal and its place; the row of the first mark
--   told_none, -refused, -marked   a sample that was checked
--   form_small                     a refusal of a form is a small number, and not the one for a form that is good
--   zeros                          numbers that are all 0
--   survey_start, -formed, -other  nothing is known; one sample more, well formed or not
use Prim.Native.Nat.{ℕ, ◌+◌, ◌*◌, ◌/◌, ◌%◌, ◌≤◌, ◌<◌}
use mathlib.Core.Path.{◌≡◌, refl, ◌∙◌, subst}
use mathlib.Core.List.{List}
use native.Mathlib.Omega.{arith}
use borrow.Author.Tests.{eq-eqb, ne_eqb, eqb-true, eqb-false, ltb-true, ltb-false}
use lib.Dec.{eqb}
use lib.ListN.{length, get_or, set, replicate, length-replicate, get_or-replicate, get_or-eq_default}
use lib.Seq.{get_or-set_same, get_or-set_other}
use Rattle.words.specs.Tests.{◌<?◌, ◌≡?◌, pick}
use Rattle.words.specs.Refusals.{ok, refused}
use Rattle.words.proofs.Tests.{by_bool}
use Rattle.words.specs.Lists.{some}
use Rattle.words.specs.RefusalNumbers.{form_refusals}
use Rattle.words.proofs.Kept.{some_false}
use Rattle.units.specs.Units.{Sample, end}
use Rattle.samples.specs.Check.{check}
use Rattle.samples.proofs.Laws.{check_refusals}
use Rattle.bundles.specs.Limits.{bundle_most}
use Rattle.tables.specs.Tables.{recording_in}
use Rattle.resolution_rules.specs.Resolving.{sample_of}
use Rattle.marks.specs.Marks.{block, row_size, state_in, marks, Marked}
use Rattle.marks.proofs.Marking.{marks_marked, marks_kept, upto_length}
use Rattle.verdicts.specs.Surveys.{packed, formed, Tells, Survey, Told}

pub low : (n v : ℕ) → n < 256 → packed n v % 256 ≡ n
low n v h = omega arith

pub high : (n v : ℕ) → n < 256 → packed n v / 256 ≡ v
high n v h = omega arith

-- 14 to 22
pub form_small : (x : Sample) (n p : ℕ) → check x ≡ refused n p → (1 < n) × (n < 256) × (p < end x)
unfolding some
form_small x n p e =
    let r = check_refusals x n p e in
    let a = some_false (λ m. m <? 2) form_refusals refl n r.0 in
    let b = some_false (λ m. 255 <? m) form_refusals refl n r.0 in
    let c = ltb-false n 2 a in
    let d = ltb-false 255 n b in
    (omega arith, omega arith, r.1)

module _ (x : Sample) (rows : List ℕ) where
  pub tells_none : Tells x 0 rows
  tells_none = record { refusal = λ z f. absurd (z refl); whole = λ e. absurd (omega arith); marked = λ e. absurd (omega arith) }

  pub tells_refused : (n p : ℕ) → check x ≡ refused n p → Tells x (packed n p) rows
  tells_refused n p e =
      let s = form_small x n p e in
      let l = low n p s.1 in
      let h = high n p s.1 in
      record { refusal = λ z f. rw (l, h) e; whole = λ f. absurd (omega arith); marked = λ f. absurd (omega arith) }

  pub tells_formed : (base : ℕ) → check x ≡ ok tt → Marked x base rows → Tells x (packed formed base) rows
  tells_formed base e m = record {
    refusal = λ z f. absurd (f (low formed base (omega arith)));
    whole = λ f. e;
    marked = λ f. rw (high formed base (omega arith)) m;
  }

module _ (x : Sample) (base : ℕ) (rows : List ℕ) where
  pub told_none : Told x base rows 0 rows
  told_none = record { tells = tells_none x rows; long = refl; kept = λ j h. refl; here = λ e. absurd (omega arith) }

  pub told_refused : (n p : ℕ) → check x ≡ refused n p → Told x base rows (packed n p) rows
  told_refused n p e =
      let s = form_small x n p e in
      let l = low n p s.1 in
      record { tells = tells_refused x rows n p e; long = refl; kept = λ j h. refl; here = λ f. absurd (omega arith) }

  pub told_marked : check x ≡ ok tt → end x ≤ bundle_most → (base + end x / block) * row_size ≤ length rows → Told x base rows (packed formed base) (marks x base rows)
  told_marked e few room =
      let l = upto_length x base rows (end x / block) in
      record {
        tells = tells_formed x (marks x base rows) base e (marks_marked x e (omega arith) base rows room);
        long = l;
        kept = λ j h. marks_kept x base rows (end x / block) j h;
        here = λ f. (high formed base (omega arith), omega arith);
      }

-- the marks of another sample stay, if they lie in the rows that do
marked_kept : (x : Sample) (base used : ℕ) (old new : List ℕ) → ((j : ℕ) → j < used → state_in new j ≡ state_in old j) → base + end x / block ≤ used → Marked x base old → Marked x base new
marked_kept x base used old new k h m = record { says = λ i l. k (base + i) (omega arith) ∙ m.says i l }

tells_kept : (x : Sample) (f used : ℕ) (old new : List ℕ) → ((j : ℕ) → j < used → state_in new j ≡ state_in old j) → (f % 256 ≡ formed → f / 256 + end x / block ≤ used) → Tells x f old → Tells x f new
tells_kept x f used old new k h t = record {
  refusal = t.refusal;
  whole = t.whole;
  marked = λ e. marked_kept x (f / 256) used old new k (h e) (t.marked e);
}

-- numbers that are all 0
pub zeros : (n m : ℕ) → ◌≡◌ {A = ℕ} (get_or (replicate n 0) m 0) 0
zeros n m = by_bool (m <? n)
    (λ t. get_or-replicate n m 0 0 (ltb-true m n t))
    (λ t. get_or-eq_default (replicate n 0) 0 (rw (length-replicate {A = ℕ} n 0) (ltb-false m n t)))

module _ (b t forms rows : List ℕ) where
  pub survey_start : ((m : ℕ) → get_or forms m 0 ≡ 0) → Survey b t forms rows 0
  survey_start z = record {
    tells = λ m. rw (z m) (tells_none (sample_of (recording_in b t) m) rows);
    below = λ m e. let h = z m in absurd (omega arith);
    room = omega arith;
  }

  module _ (used : ℕ) (c : Survey b t forms rows used) (m f : ℕ) (new : List ℕ) (d : Told (sample_of (recording_in b t) m) used rows f new) (h : m < length forms) where
    abbrev X : ℕ → Sample
    X i = sample_of (recording_in b t) i

    abbrev after : ℕ
    after = pick (f % 256 ≡? formed) (used + end (X m) / block) used

    grows : used ≤ after
    grows = by_bool (f % 256 ≡? formed) (λ e. rw e (omega arith)) (λ e. rw e (omega arith))

    here : get_or (set forms m f) m 0 ≡ f
    here = get_or-set_same forms m f 0 h

    other : (i : ℕ) → (i ≡ m → ⊥) → get_or (set forms m f) i 0 ≡ get_or forms i 0
    other i n = get_or-set_other forms m i f 0 n

    survey_more : Survey b t (set forms m f) new (pick (f % 256 ≡? formed) (used + end (sample_of (recording_in b t) m) / block) used)
    survey_more = record {
      tells = λ i. by_bool (eqb i m)
          (λ e. rw (eqb-true i m e, here) d.tells)
          (λ e. rw (other i (eqb-false i m e)) (tells_kept (X i) (get_or forms i 0) used rows new d.kept (c.below i) (c.tells i)));
      below = λ i e. by_bool (eqb i m)
          (λ q. let v = eqb-true i m q in let u = rw (v, here) at e in rw (v, here, eq-eqb (f % 256) formed u) (let w = d.here u in omega arith))
          (λ q. let v = eqb-false i m q in let w = c.below i (rw (other i v) at e) in let g = grows in rw (other i v) (omega arith));
      room = by_bool (f % 256 ≡? formed)
          (λ e. rw e (d.here (eqb-true _ _ e)).1)
          (λ e. rw e (let r = c.room in let l = d.long in omega arith));
    }

  -- sample m as the code has it, x
  module _ (used : ℕ) (c : Survey b t forms rows used) (m f : ℕ) (new : List ℕ) (x : Sample) (same : x ≡ sample_of (recording_in b t) m) (d : Told x used rows f new) (h : m < length forms) where
    more : Survey b t (set forms m f) new (pick (f % 256 ≡? formed) (used + end (sample_of (recording_in b t) m) / block) used)
    more = survey_more used c m f new (subst (λ (y : Sample). Told y used rows f new) same d) h

    pub survey_formed : f % 256 ≡ formed → Survey b t (set forms m f) new (used + end x / block)
    survey_formed e = rw same (rw (eq-eqb (f % 256) formed e) at more)

    pub survey_other : (f % 256 ≡ formed → ⊥) → Survey b t (set forms m f) new used
    survey_other e = rw (ne_eqb (f % 256) formed e) at more
