-- A copy by the rows, as the code finds it; and that by the marks of a well-formed sample it is the copy. Assumes nothing.
--
--   state_again, zero_again                 from a state that stands at data_offset
--   offset_past, offset_wrong               26: past the end; the walk does not stand there
--   unit_long, unit_good                    data_length 0 of a unit that is no aggregator
--   cover_long, cover_good                  and of an aggregator
--   length_past, length_wrong, length_good  another data_length
--   marked_copy, unmarked_copy              by the marks; from the front
--   marks_copy                              by the rows that its marks were put in
use Rattle.std.specs.Prelude.{Err}
use Prim.Native.Nat.{ℕ, ◌+◌, ◌-◌, ◌*◌, ◌/◌, ◌≤◌, ◌<◌}
use mathlib.Core.Path.{◌≡◌, refl, ap, sym, ◌∙◌}
use mathlib.Core.List.{List}
use mathlib.Core.Bool.{true, false, ◌&&◌, not}
use native.Mathlib.Omega.{arith}
use borrow.Author.Tests.{lt-ltb, le-ltb, le-leb, lt-leb, ltb-true, ltb-false, leb-true, leb-false, eq-eqb, ne_eqb, eqb-true, eqb-false}
use lib.ListN.{length}
use Rattle.words.specs.Tests.{◌≤?◌, ◌<?◌, ◌≡?◌, pick}
use Rattle.words.specs.Refusals.{ok}
use Rattle.words.specs.RefusalNumbers.{bad_data_offset, bad_data_length}
use Rattle.words.proofs.Tests.{by_bool, and_both, not-true}
use Rattle.units.specs.Units.{Sample, end, next, is_aggregator}
use Rattle.units.specs.Aggregators.{cover_end}
use Rattle.units.proofs.Units.{next_after}
use Rattle.samples.specs.Check.{check}
use Rattle.copies.specs.Copies.{copy_end}
use Rattle.copies.proofs.Copies.{end_length, end_unit, end_aggregator}
use Rattle.mark_rules.specs.declared.WalkState.{WalkState}
use Rattle.mark_rules.specs.States.{state_step, reach, state_at}
use Rattle.mark_rules.specs.Amounts.{stands_at_end, between, copy_between, copy_amount}
use Rattle.mark_rules.proofs.States.{step_other, reach_here, reach_step}
use Rattle.mark_rules.proofs.Counts.{state_next}
use Rattle.mark_rules.proofs.Copying.{copy_states}
use Rattle.marks.specs.Marks.{block, row_size, marks, state_by, end_state, copy_by, Marked}
use Rattle.marks.proofs.Marking.{marked_state, unmarked_state, marks_marked}

-- a state that stands at o is the state there
pub state_again : (x : Sample) (rows : List ℕ) (base o : ℕ) (s : WalkState) → s ≡ state_by x rows base o → s.place ≡ o → s ≡ state_by x rows base s.place
state_again x rows base o s p e = p ∙ ap (state_by x rows base) (sym e)

pub zero_again : (x : Sample) (rows : List ℕ) (base o n q : ℕ) → q ≡ o → n ≡ 0 → copy_by x rows base q 0 ≡ copy_by x rows base o n
zero_again x rows base o n q e z = rw (e, z)

-- a copy by any two states
module _ (x : Sample) (o n : ℕ) (a e : WalkState) where
  between_past : end x ≤ o → copy_between x o n a e ≡ Err bad_data_offset
  unfolding copy_between
  between_past h = rw (le-ltb o (end x) h)

  between_wrong : (a.place ≡ o → ⊥) → copy_between x o n a e ≡ Err bad_data_offset
  unfolding copy_between
  between_wrong h = by_bool (o <? end x) (λ t. rw (t, ne_eqb a.place o h)) (λ t. rw t)

  module _ (h : o < end x) (p : a.place ≡ o) where
    between_long : end x < copy_end x o n → copy_between x o n a e ≡ Err bad_data_length
    unfolding copy_between
    between_long l = rw (lt-ltb o (end x) h, eq-eqb a.place o p, lt-leb (copy_end x o n) (end x) l)

    between_zero : n ≡ 0 → copy_end x o n ≤ end x → copy_between x o n a e ≡ between a e
    unfolding copy_between
    between_zero z l = rw (lt-ltb o (end x) h, eq-eqb a.place o p, le-leb (copy_end x o n) (end x) l, eq-eqb n 0 z)

    between_other : (n ≡ 0 → ⊥) → copy_end x o n ≤ end x → copy_between x o n a e ≡ pick (stands_at_end o (copy_end x o n) a e) (between a e) (Err bad_data_length)
    unfolding copy_between
    between_other z l = rw (lt-ltb o (end x) h, eq-eqb a.place o p, le-leb (copy_end x o n) (end x) l, ne_eqb n 0 z)

module _ (x : Sample) (rows : List ℕ) (base : ℕ) where
  -- where the walk stands at the end
  end_step : (o : ℕ) → is_aggregator x o ≡ false → end_state x rows base o 0 ≡ state_step x (state_by x rows base o)
  end_step o t = rw t

  end_cover : (o : ℕ) → is_aggregator x o ≡ true → end_state x rows base o 0 ≡ state_by x rows base (cover_end x o)
  end_cover o t = rw (t, end_aggregator x o 0 refl t)

  end_other : (o n : ℕ) → (n ≡ 0 → ⊥) → end_state x rows base o n ≡ state_by x rows base (o + n)
  end_other o n z = rw (ne_eqb n 0 z, end_length x o n z)

  pub offset_past : (o n : ℕ) → end x ≤ o → Err bad_data_offset ≡ copy_by x rows base o n
  unfolding copy_by
  offset_past o n h = sym (between_past x o n _ _ h)

  module _ (o n : ℕ) (a : WalkState) (s : a ≡ state_by x rows base o) where
    pub offset_wrong : (a.place ≡ o → ⊥) → Err bad_data_offset ≡ copy_by x rows base o n
    unfolding copy_by
    offset_wrong h = sym (between_wrong x o n _ _ (λ e. h (ap (λ (b : WalkState). b.place) s ∙ e)))

  -- from the state a at a unit
  module _ (a : WalkState) (s : a ≡ state_by x rows base a.place) (h : a.place < end x) where
    abbrev o : ℕ
    o = a.place

    here : (state_by x rows base o).place ≡ o
    here = ap (λ (b : WalkState). b.place) (sym s)

    module _ (t : is_aggregator x a.place ≡ false) where
      pub unit_long : end x < next x a.place → Err bad_data_length ≡ copy_by x rows base a.place 0
      unfolding copy_by
      unit_long l = sym (between_long x o 0 _ _ h here (rw (end_unit x o 0 refl t) l))

      one_step : reach x (next x a.place) a ≡ state_step x a
      one_step =
          let n = next_after x o in
          let j = step_other x a t in
          reach_step x (next x o) a n ∙ reach_here x (next x o) (state_step x a) (rw j (omega arith))

      pub unit_good : next x a.place ≤ end x → between a (reach x (next x a.place) a) ≡ copy_by x rows base a.place 0
      unfolding copy_by
      unit_good l = rw one_step (sym (between_zero x o 0 _ _ h here refl (rw (end_unit x o 0 refl t) l) ∙ rw (end_step o t, ← s)))

    module _ (t : is_aggregator x a.place ≡ true) where
      pub cover_long : end x < cover_end x a.place → Err bad_data_length ≡ copy_by x rows base a.place 0
      unfolding copy_by
      cover_long l = sym (between_long x o 0 _ _ h here (rw (end_aggregator x o 0 refl t) l))

      pub cover_good : cover_end x a.place ≤ end x → between a (state_by x rows base (cover_end x a.place)) ≡ copy_by x rows base a.place 0
      unfolding copy_by
      cover_good l = sym (between_zero x o 0 _ _ h here refl (rw (end_aggregator x o 0 refl t) l) ∙ rw (end_cover o t, ← s))

  -- another data_length
  module _ (o n : ℕ) (a : WalkState) (s : a ≡ state_by x rows base o) (p : a.place ≡ o) (h : o < end x) (z : n ≡ 0 → ⊥) where
    there : (state_by x rows base o).place ≡ o
    there = ap (λ (b : WalkState). b.place) (sym s) ∙ p

    pub length_past : end x - o < n → Err bad_data_length ≡ copy_by x rows base o n
    unfolding copy_by
    length_past l = let e = end_length x o n z in sym (between_long x o n _ _ h there (omega arith))

    other : o + n ≤ end x → copy_by x rows base o n ≡ pick (stands_at_end o (o + n) a (state_by x rows base (o + n))) (between a (state_by x rows base (o + n))) (Err bad_data_length)
    unfolding copy_by
    other l = let e = end_length x o n z in between_other x o n _ _ h there z (omega arith) ∙ rw (end_other o n z, e, ← s)

    module _ (e : WalkState) (q : e ≡ state_by x rows base (o + n)) (l : o + n ≤ end x) where
      pub length_wrong : stands_at_end o (o + n) a e ≡ false → Err bad_data_length ≡ copy_by x rows base o n
      length_wrong t = sym (other l ∙ rw (← q, t))

      pub length_good : stands_at_end o (o + n) a e ≡ true → between a e ≡ copy_by x rows base o n
      length_good t = sym (other l ∙ rw (← q, t))

-- a well-formed sample, by rows that tell its states
module _ (x : Sample) (k : check x ≡ ok tt) (rows : List ℕ) (base : ℕ) (tell : (d : ℕ) → d ≤ end x → state_by x rows base d ≡ state_at x d) (o n : ℕ) where
  told_copy : copy_by x rows base o n ≡ copy_amount x o n
  unfolding copy_by
  told_copy = by_bool (o <? end x)
      (λ t. let h = ltb-true o (end x) t in let s = tell o (omega arith) in rw s (by_bool ((state_at x o).place ≡? o)
      (λ w. let p = eqb-true _ _ w in by_bool (copy_end x o n ≤? end x)
      (λ u. ap (copy_between x o n (state_at x o)) (ends p (leb-true _ _ u)) ∙ copy_states x k o n)
      (λ u. let l = leb-false _ _ u in between_long x o n _ _ h p l ∙ sym (between_long x o n (state_at x o) (state_at x (copy_end x o n)) h p l) ∙ copy_states x k o n))
      (λ w. let p = eqb-false _ _ w in between_wrong x o n _ _ p ∙ sym (between_wrong x o n (state_at x o) (state_at x (copy_end x o n)) p) ∙ copy_states x k o n)))
      (λ t. let h = ltb-false o (end x) t in between_past x o n _ _ h ∙ sym (between_past x o n (state_at x o) (state_at x (copy_end x o n)) h) ∙ copy_states x k o n)
    where
      ends : (state_at x o).place ≡ o → copy_end x o n ≤ end x → pick ((n ≡? 0) && not (is_aggregator x o)) (state_step x (state_at x o)) (state_by x rows base (copy_end x o n)) ≡ state_at x (copy_end x o n)
      ends p l = by_bool ((n ≡? 0) && not (is_aggregator x o))
          (λ t.
          let w = and_both (n ≡? 0) (not (is_aggregator x o)) t in
          let a = not-true (is_aggregator x o) w.1 in
          rw (t, end_unit x o n (eqb-true n 0 w.0) a) (sym (state_next x o p a)))
          (λ t. rw t (tell (copy_end x o n) l))

-- by its marks, and by rows of which none is there
pub marked_copy : (x : Sample) → check x ≡ ok tt → (rows : List ℕ) (base : ℕ) → Marked x base rows → (o n : ℕ) → copy_by x rows base o n ≡ copy_amount x o n
marked_copy x k rows base m o n = told_copy x k rows base (marked_state x base rows m) o n

pub unmarked_copy : (x : Sample) → check x ≡ ok tt → (rows : List ℕ) (base : ℕ) → length rows ≤ base → (o n : ℕ) → copy_by x rows base o n ≡ copy_amount x o n
unmarked_copy x k rows base l o n = told_copy x k rows base (λ d h. unmarked_state x base rows l d) o n

-- by the rows that its marks were put in
pub marks_copy : (x : Sample) → check x ≡ ok tt → (o n base : ℕ) (rows : List ℕ) → end x ≤ 16777216 → (base + end x / block) * row_size ≤ length rows →
    copy_by x (marks x base rows) base o n ≡ copy_between x o n (state_at x o) (state_at x (copy_end x o n))
marks_copy x k o n base rows few room = marked_copy x k (marks x base rows) base (marks_marked x k (omega arith) base rows room) o n ∙ sym (copy_states x k o n)
