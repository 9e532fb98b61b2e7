-- A sample that is being marked, and the state at any place by the marks. Assumes nothing.
--
--   upto_more, upto_length, upto_past            one mark more; the rows stay as many; past the end of the rows nothing is written
--   Marking, marking_start, -reach, -step, -end  a loop that has marked i blocks
--   by_front, by_past, by_row                    the state at a place: from the front, or from the mark before it
--   state_small                                  the numbers of a state of a sample that is not too long fit a row
--   marks_marked, marks_kept                     what is marked is there; the rows before stay
--   few_steps                                    the steps from the mark before a place
--   unmarked_state, marked_state                 past the end of the rows, and by the marks, it is the state
use Prim.Native.Nat.{ℕ, zero, suc, ◌+◌, ◌-◌, ◌*◌, ◌/◌, ◌%◌, ◌≤◌, ◌<◌}
use mathlib.Core.Path.{◌≡◌, refl, ap, sym, ◌∙◌}
use mathlib.Core.List.{List}
use native.Mathlib.Omega.{arith}
use native.Mathlib.Numerals.{add-one}
use borrow.Author.Tests.{eq-eqb, ne_eqb, ltb-true, ltb-false, eqb-true, eqb-false}
use lib.Dec.{ltb}
use lib.ListN.{length}
use Rattle.words.specs.Tests.{◌≡?◌}
use Rattle.words.specs.Refusals.{ok}
use Rattle.words.specs.Buffers.{put}
use Rattle.words.proofs.Tests.{by_bool}
use Rattle.words.proofs.Buffers.{put_length, put_not}
use Rattle.units.specs.Units.{Sample, end}
use Rattle.samples.specs.Check.{check}
use Rattle.mark_rules.specs.declared.WalkState.{WalkState}
use Rattle.mark_rules.specs.States.{front, reach_from, reach, state_at}
use Rattle.mark_rules.proofs.States.{state_on, state_front, state_past, reach_enough}
use Rattle.mark_rules.proofs.Standing.{state_settled}
use Rattle.marks.specs.Marks.{block, row_size, row_of, state_in, marks_upto, marks, state_by, Marked}
use Rattle.marks.specs.Fits.{Fits}
use Rattle.marks.proofs.Rows.{row_past, Small, put_same, put_other}
use Rattle.marks.proofs.Steps.{fits_front, fits_reach}

module _ (x : Sample) (base : ℕ) (rows : List ℕ) where
  pub upto_more : (n : ℕ) → marks_upto x base rows (n + 1) ≡ put (marks_upto x base rows n) ((base + n) * row_size) (row_of (state_at x ((n + 1) * block)))
  unfolding marks_upto
  upto_more n = rw (add-one n)

  pub upto_length : (n : ℕ) → length (marks_upto x base rows n) ≡ length rows
  unfolding marks_upto
  upto_length zero = refl
  upto_length (suc n) = put_length (marks_upto x base rows n) ((base + n) * 5) (row_of (state_at x (suc n * block))) ∙ upto_length n

  pub upto_past : (n : ℕ) → length rows ≤ base → marks_upto x base rows n ≡ rows
  unfolding marks_upto
  upto_past zero h = refl
  upto_past (suc n) h = let l = upto_length n in put_not (marks_upto x base rows n) ((base + n) * 5) (row_of (state_at x (suc n * block))) (omega arith) ∙ upto_past n h

  -- a loop that has marked i blocks
  pub record Marking (now : List ℕ) (s : WalkState) (i : ℕ) : Type 0 where
    pub marked : now ≡ marks_upto x base rows i
    pub here : s ≡ state_at x (i * block)
    pub fits : Fits s

  pub marking_start : Marking rows front 0
  unfolding marks_upto
  marking_start = record { marked = refl; here = sym (state_front x); fits = fits_front }

  module _ (now : List ℕ) (s : WalkState) (i : ℕ) (c : Marking now s i) where
    marking_reach : reach x ((i + 1) * block) s ≡ state_at x ((i + 1) * block)
    marking_reach = rw c.here (state_on x (i * block) ((i + 1) * block) (omega arith))

    pub marking_step : Marking (put now ((base + i) * row_size) (row_of (reach x ((i + 1) * block) s))) (reach x ((i + 1) * block) s) (i + 1)
    marking_step = record {
      marked = ap (λ (o : List ℕ). put o ((base + i) * row_size) (row_of (reach x ((i + 1) * block) s))) c.marked
          ∙ ap (λ (t : WalkState). put (marks_upto x base rows i) ((base + i) * row_size) (row_of t)) marking_reach
          ∙ sym (upto_more i);
      here = marking_reach;
      fits = fits_reach x ((i + 1) * block) s c.fits;
    }

    pub marking_length : length now ≡ length rows
    marking_length = ap length c.marked ∙ upto_length i

    pub marking_end : i ≡ end x / block → now ≡ marks x base rows
    marking_end e = c.marked ∙ ap (marks_upto x base rows) e

  -- the state at d by the rows
  module _ (d : ℕ) where
    pub by_front : d / block ≡ 0 → reach x d front ≡ state_by x rows base d
    unfolding state_by
    by_front h = rw (eq-eqb (d / block) 0 h)

    pub by_row : (d / block ≡ 0 → ⊥) → reach x d (state_in rows (base + (d / block - 1))) ≡ state_by x rows base d
    unfolding state_by
    by_row h = rw (ne_eqb (d / block) 0 h)

    pub by_past : (d / block ≡ 0 → ⊥) → length rows ≤ base → reach x d front ≡ state_by x rows base d
    by_past h l = ap (reach x d) (sym (row_past rows (base + (d / block - 1)) (omega arith))) ∙ by_row h

  -- past the end of the rows it is the state
  pub unmarked_state : length rows ≤ base → (d : ℕ) → state_by x rows base d ≡ state_at x d
  unfolding state_at
  unmarked_state l d = by_bool (d / block ≡? 0)
      (λ t. sym (by_front d (eqb-true _ _ t)))
      (λ t. sym (by_past d (eqb-false _ _ t) l))

  -- by the marks it is the state
  pub marked_state : Marked x base rows → (d : ℕ) → d ≤ end x → state_by x rows base d ≡ state_at x d
  marked_state m d h = by_bool (d / block ≡? 0)
      (λ t. sym (by_front d (eqb-true _ _ t)) ∙ (unfold state_at in refl))
      (λ t.
      let n = eqb-false (d / block) 0 t in
      sym (by_row d n)
      ∙ rw (m.says (d / block - 1) (omega arith)) (state_on x ((d / block - 1 + 1) * block) d (omega arith)))

module _ (x : Sample) (ok : check x ≡ ok tt) (few : end x < 4294967296) where
  state_small : (d : ℕ) → d ≤ end x → Small (state_at x d)
  state_small d h = let c = state_settled x ok d h in record {
    place = omega (arith, c.most);
    until = omega (arith, c.until_most);
    count = omega (arith, c.small, c.most);
    bytes = omega (arith, c.small, c.most);
    extractors = omega (arith, c.fewer, c.small, c.most);
  }

  module _ (base : ℕ) (rows : List ℕ) (room : (base + end x / block) * row_size ≤ length rows) where
    says : (n : ℕ) → n * block ≤ end x → (i : ℕ) → i < n → state_in (marks_upto x base rows n) (base + i) ≡ state_at x ((i + 1) * block)
    unfolding marks_upto
    says zero h i l = absurd (omega arith)
    says (suc n) h i l = by_bool (ltb i n)
        (λ t. let k = ltb-true i n t in put_other (marks_upto x base rows n) (base + n) _ (base + i) (λ e. omega arith) ∙ says n (omega arith) i k)
        (λ t. let k = ltb-false i n t in let e : i ≡ n = omega arith in let u = upto_length x base rows n in
        rw (e, add-one n) (put_same (marks_upto x base rows n) (base + n) _ (omega arith) (state_small (suc n * block) h)))

    pub marks_marked : Marked x base (marks x base rows)
    marks_marked = record { says = λ i l. says (end x / block) (omega arith) i (omega arith) }

-- the rows before base stay
pub marks_kept : (x : Sample) (base : ℕ) (rows : List ℕ) (n j : ℕ) → j < base → state_in (marks_upto x base rows n) j ≡ state_in rows j
unfolding marks_upto
marks_kept x base rows zero j h = refl
marks_kept x base rows (suc n) j h = put_other (marks_upto x base rows n) (base + n) _ j (λ e. omega arith) ∙ marks_kept x base rows n j h

-- from the last mark at or before d the walk comes to d in less steps than a block has bytes
pub few_steps : (x : Sample) (d : ℕ) → state_at x d ≡ reach_from x d (d % block) (state_at x (d / block * block))
few_steps x d =
    let c = d / block * block in
    let p = state_past x c in
    sym (state_on x c d (omega arith)) ∙ sym (reach_enough x d (d % block) (state_at x c) (omega arith))
