-- A copy of a well-formed sample by the states at its start and at its end. Assumes nothing.
--
--   amount_refused, amount_units    a refused copy, and one that is not
--   starts_state                    26 by the state at data_offset
--   end_states                      27 by both states
--   copy_states                     26 to 28, or the copy counted
--   states_refused, states_counted  the same, by the refusal
use Rattle.std.specs.Prelude.{Err, Ok}
use Prim.Native.Nat.{ℕ, ◌≤◌, ◌<◌}
use mathlib.Core.Path.{◌≡◌, ap, sym, ◌∙◌}
use mathlib.Core.List.{map, Memᴰ}
use mathlib.Core.Logic.{inr, ⊎_elim}
use mathlib.Core.Bool.{Bool, true, ◌&&◌, and-false}
use native.Mathlib.Omega.{arith}
use borrow.Author.Tests.{lt-ltb, le-ltb, le-leb, lt-leb, ltb-true, ltb-false, leb-true, leb-false, eq-eqb, ne_eqb, eqb-true, eqb-false}
use lib.ListN.{length}
use Rattle.words.specs.Tests.{◌≤?◌, ◌<?◌, ◌≡?◌}
use Rattle.words.specs.Refusals.{ok}
use Rattle.words.specs.Lists.{some, sum, has}
use Rattle.words.proofs.Tests.{by_bool, true_false}
use Rattle.words.proofs.Lists.{has_mem, has_from, some_none}
use Rattle.units.specs.Units.{Sample, end, size, next, is_aggregator, is_extractor, top_units, border}
use Rattle.units.specs.Aggregators.{included, units}
use Rattle.units.proofs.Walks.{border_past, units_included, units_from}
use Rattle.samples.specs.Check.{check}
use Rattle.samples.proofs.Laws.{unit_inside}
use Rattle.copies.specs.Copies.{copy_starts, copy_end, copy_ends, copied, included_border, border_fault, copy_fault}
use Rattle.copies.proofs.Runs.{in_holder, holder_one, top_apart, aggregator_one}
use Rattle.copies.proofs.Rest.{rest}
use Rattle.copies.proofs.Copies.{starts_unit, unit_starts, starts_not, ends_top, ends_included, end_length, end_zero, top_ends, copy_cut, copy_most, copied_flat}
use Rattle.copies.proofs.Answers.{copy_border, copy_formed}
use Rattle.mark_rules.specs.Standing.{Standing}
use Rattle.mark_rules.specs.States.{state_at}
use Rattle.mark_rules.specs.Amounts.{copy_amount, starts_by, ends_by, between, copy_between}
use Rattle.mark_rules.proofs.Standing.{border_state, state_border, state_settled, no_border, border_next, unit_border}
use Rattle.mark_rules.proofs.Counts.{met_between, state_met}

-- a refused copy, and one that is not
pub amount_refused : (z : Sample) (o n : ℕ) → (copy_fault z o n ≡ 0 → ⊥) → copy_amount z o n ≡ Err (copy_fault z o n)
unfolding copy_amount
amount_refused z o n h = rw (ne_eqb (copy_fault z o n) 0 h)

pub amount_units : (z : Sample) (o n : ℕ) → copy_fault z o n ≡ 0 → copy_amount z o n ≡ Ok (record { count = length (copied z o n); bytes = sum (map (size z) (copied z o n)) })
unfolding copy_amount
amount_units z o n h = rw (eq-eqb (copy_fault z o n) 0 h)

module _ (x : Sample) (ok : check x ≡ ok tt) where
  -- 26: a unit starts at o exactly if the walk stands there before the end
  pub starts_state : (o : ℕ) → starts_by x o (state_at x o) ≡ copy_starts x o
  starts_state o = by_bool (o <? end x)
      (λ t. let h = ltb-true o (end x) t in rw t (by_bool ((state_at x o).place ≡? o)
      (λ s. rw s (sym (unit_starts x o (⊎_elim (λ e. absurd (omega arith)) (λ m. m) (state_border x ok o (omega arith) (eqb-true _ _ s))))))
      (λ s. rw s (sym (starts_not x o (λ m. absurd (eqb-false _ _ s (border_state x ok o (inr m)))))))))
      (λ t. let h = ltb-false o (end x) t in rw t (sym (starts_not x o (λ m. let i = unit_inside x ok o m in absurd (omega arith)))))

  -- top-level borders by the state at d
  abbrev on_border : ℕ → Bool
  on_border d = ((state_at x d).place ≡? d) && ((state_at x d).until ≤? d)

  on_border_lem : (d : ℕ) (g q : ℕ) → Standing x g q → q ≡ d → (g ≤? d) ≡ border x d
  on_border_lem d g q (Standing.outside l b) e = rw (le-leb g d (omega arith)) (sym (rw e at b))
  on_border_lem d g q (Standing.inside p m t e i) f =
      let h = in_holder x p q i in
      rw (lt-leb g d (omega arith)) (sym (no_border x ok d p m (omega arith) (omega arith)))

  border_states : (d : ℕ) → d ≤ end x → on_border d ≡ border x d
  border_states d m = by_bool ((state_at x d).place ≡? d)
      (λ s. rw s (on_border_lem d _ _ (state_settled x ok d m).stands (eqb-true _ _ s)))
      (λ s. rw s (sym (by_bool (border x d)
      (λ b. absurd (eqb-false _ _ s (border_state x ok d (unit_border x d b))))
      (λ b. b))))

  -- borders of the units that the aggregator at p includes, by the state at d
  module _ (p : ℕ) (m : Memᴰ p (top_units x)) (t : is_aggregator x p ≡ true) where
    in_same : (d g q : ℕ) → Standing x g q → q ≡ d → p < d → d < next x p → has d (included x p) ≡ true
    in_same d g q (Standing.outside l b) e f h = true_false _ (rw e at b) (no_border x ok d p m f h)
    in_same d g q (Standing.inside r k a i j) e f h =
        let u = in_holder x r q j in
        let same = holder_one x p r d m k (omega arith) h (omega arith) (omega arith) in
        has_mem d (included x p) (rw (same, ← e) j)

    included_states : (d : ℕ) → p < d → (((state_at x d).place ≡? d) && (d ≤? next x p)) ≡ included_border x p d
    included_states d l = let top = top_ends x ok p m in by_bool (d ≤? next x p)
        (λ s. let h = leb-true d (next x p) s in by_bool (d ≡? next x p)
        (λ e. let same = eqb-true d (next x p) e in rw (s, e, eq-eqb (state_at x d).place d (border_state x ok d (rw same (unit_border x (next x p) (border_next x ok p m))))))
        (λ e. let n = eqb-false d (next x p) e in rw (s, e) (by_bool ((state_at x d).place ≡? d)
        (λ w. rw w (sym (in_same d _ _ (state_settled x ok d (omega arith)).stands (eqb-true _ _ w) l (omega arith))))
        (λ w. rw w (sym (by_bool (has d (included x p))
        (λ i. absurd (eqb-false _ _ w (border_state x ok d (inr (units_included x p d m t (has_from d (included x p) i))))))
        (λ i. i)))))))
        (λ s. let h = leb-false d (next x p) s in rw (s, and-false ((state_at x d).place ≡? d), ne_eqb d (next x p) (omega arith))
        (sym (some_none (λ q. d ≡? q) (included x p) (λ q i. let j = in_holder x p q i in ne_eqb d q (omega arith)))))

  -- the end of the last aggregator before a top-level unit, and before an included one
  until_by : (o g q : ℕ) → Standing x g q → q ≡ o → Memᴰ o (top_units x) → g ≤ o
  until_by o g q (Standing.outside l b) e m = omega arith
  until_by o g q (Standing.inside p k t i j) e m = absurd (top_apart x p o k (rw (← e) j) m)

  until_in : (o p g q : ℕ) → Standing x g q → q ≡ o → Memᴰ p (top_units x) → Memᴰ o (included x p) → g ≡ next x p
  until_in o p g q (Standing.outside l b) e m i =
      let h = in_holder x p o i in
      true_false _ (rw e at b) (no_border x ok o p m h.0 h.1)
  until_in o p g q (Standing.inside r k t f j) e m i = f ∙ ap (next x) (aggregator_one x r p o k m (rw (← e) j) i)

  module _ (o n : ℕ) (s : copy_starts x o ≡ true) where
    unit : Memᴰ o (units x)
    unit = starts_unit x o s

    here : (state_at x o).place ≡ o
    here = border_state x ok o (inr unit)

    before : o ≤ end x
    before = let i = unit_inside x ok o unit in omega arith

    stand : Standing x (state_at x o).until (state_at x o).place
    stand = (state_settled x ok o before).stands

    abbrev E : ℕ
    E = copy_end x o n

    -- data_length 0
    zero_ends : n ≡ 0 → ends_by x o n (state_at x o) (state_at x E) ≡ copy_ends x o n
    zero_ends z =
        let c = end_zero x ok o n s z in
        let b : border_fault x o n ≡ 0 = unfold border_fault in rw (s, c) in
        rw (eq-eqb n 0 z, c, le-leb E (end x) (copy_most x o n b ok))

    top_ends_by : (n ≡ 0 → ⊥) → Memᴰ o (top_units x) → ends_by x o n (state_at x o) (state_at x E) ≡ copy_ends x o n
    top_ends_by z m =
        let u = until_by o _ _ stand here m in
        rw (ne_eqb n 0 z, le-ltb o (state_at x o).until u, ends_top x o n m) (by_bool (E ≤? end x)
        (λ t. rw t (border_states E (leb-true _ _ t)))
        (λ t. rw t (sym (border_past x E (leb-false _ _ t)))))

    included_ends_by : (n ≡ 0 → ⊥) → (p : ℕ) → Memᴰ p (top_units x) → is_aggregator x p ≡ true → Memᴰ o (included x p) → ends_by x o n (state_at x o) (state_at x E) ≡ copy_ends x o n
    included_ends_by z p m t i =
        let u = until_in o p _ _ stand here m i in
        let h = in_holder x p o i in
        let e = end_length x o n z in
        let top = top_ends x ok p m in
        let w = included_states p m t E (omega arith) in
        rw (ne_eqb n 0 z, u, lt-ltb o (next x p) h.1, ends_included x o n p m t i) (by_bool (E ≤? end x)
        (λ b. rw b w)
        (λ b. let l = leb-false E (end x) b in rw b (sym (sym w ∙ rw (lt-leb E (next x p) (omega arith)) (and-false ((state_at x E).place ≡? E))))))

    -- 27
    pub end_states : ends_by x o n (state_at x o) (state_at x (copy_end x o n)) ≡ copy_ends x o n
    end_states = by_bool (n ≡? 0)
        (λ t. zero_ends (eqb-true _ _ t))
        (λ t. units_from x o unit (top_ends_by (eqb-false _ _ t)) (included_ends_by (eqb-false _ _ t)))

  module _ (o n : ℕ) where
    refused_amount : {f : ℕ} → f ≡ border_fault x o n → (f ≡ 0 → ⊥) → Err f ≡ copy_amount x o n
    unfolding copy_amount
    refused_amount {f} e h = let g = copy_border x o n ok e h in rw (← g, ne_eqb f 0 h)

    good_amount : border_fault x o n ≡ 0 → between (state_at x o) (state_at x (copy_end x o n)) ≡ copy_amount x o n
    unfolding copy_amount
    good_amount b =
        met_between x _ _ _ _ (state_met x o (copy_end x o n) (copy_cut x o n b ok))
        ∙ rw (copy_formed x o n ok b, copied_flat x o n b ok) (by_bool (some (is_extractor x) (rest x (copy_end x o n) o)) (λ t. rw t) (λ t. rw t))

    -- 26 to 28, or the copy counted
    pub copy_states : copy_between x o n (state_at x o) (state_at x (copy_end x o n)) ≡ copy_amount x o n
    unfolding copy_between
    copy_states = by_bool (copy_starts x o)
        (λ s. rw (starts_state o, s, end_states o n s) (by_bool (copy_ends x o n)
        (λ e. rw e (good_amount (unfold border_fault in rw (s, e))))
        (λ e. rw e (refused_amount (unfold border_fault in rw (s, e)) (λ z. omega arith)))))
        (λ s. rw (starts_state o, s) (refused_amount (unfold border_fault in rw s) (λ z. omega arith)))

    pub states_refused : (copy_fault x o n ≡ 0 → ⊥) → copy_between x o n (state_at x o) (state_at x (copy_end x o n)) ≡ Err (copy_fault x o n)
    states_refused h = copy_states ∙ amount_refused x o n h

    pub states_counted : copy_fault x o n ≡ 0 → copy_between x o n (state_at x o) (state_at x (copy_end x o n)) ≡ Ok (record { count = length (copied x o n); bytes = sum (map (size x) (copied x o n)) })
    states_counted h = copy_states ∙ amount_units x o n h
