-- Where a unit stops and where zeros end, by place, as the code looks for them. Assumes nothing.
--
--   stop_zeros, stop_end                  a place where what is forbidden stands, and the end
--   stop_one, stop_two, stop_three        a byte above 00; two of which the second is above 00; three of which the third is above 02
--   stop_last, -first, -pair, -single     one or two bytes at the end: the last is above 00; only the first is; both are 00; one is there, 00
--   stop_inside                           a stop is from the place on, and inside
--   zero_at, zero_on, zero_end            the same of zeros
--   zeros_inside                          zeros end from the place on, and inside
--   streamable_none, streamable_by        what `is_streamable` says
use Prim.Native.Nat.{ℕ, ◌+◌, ◌-◌, ◌≤◌, ◌<◌}
use mathlib.Core.Path.{◌≡◌, ap, sym, ◌∙◌}
use mathlib.Core.Bool.{Bool, true, false}
use mathlib.Core.List.{List, []}
use native.Mathlib.Omega.{arith}
use native.Mathlib.Nat.{add-zero, zero-add}
use borrow.Author.Tests.{eqb-true, eqb-false, eq-eqb, ne_eqb, le-leb, lt-leb}
use lib.ListN.{length, drop, length-drop, get_or-eq_default}
use lib.Seq.{get_or-drop}
use Rattle.words.specs.Tests.{◌≡?◌}
use Rattle.words.specs.Bytes.{byte_at}
use Rattle.words.proofs.Tests.{by_bool, by_number}
use Rattle.words.proofs.Positions.{split_one}
use Rattle.byte_streams.specs.Writing.{is_forbidden, is_streamable}
use Rattle.byte_streams.specs.Places.{clear_length, unit_stop, leading_zeros, zeros_end}
use Rattle.byte_streams.proofs.Units.{no_length}
use Rattle.byte_streams.proofs.Stops.{stop_none, stop_here, stop_on_list, lead_none, lead_zero, lead_byte, clear_most, lead_most, streamable_stop}

-- no such three bytes
no_first : (x y z : ℕ) → (x ≡ 0 → ⊥) → is_forbidden x y z ≡ false
no_first x y z h = rw (ne_eqb x 0 h)

no_second : (x y z : ℕ) → (y ≡ 0 → ⊥) → is_forbidden x y z ≡ false
no_second x y z h = rw (ne_eqb y 0 h) (by_bool (x ≡? 0) (λ t. rw t) (λ t. rw t))

no_third : (x y z : ℕ) → 2 < z → is_forbidden x y z ≡ false
no_third x y z h = rw (lt-leb z 2 h) (by_bool (x ≡? 0) (λ t. rw t (by_bool (y ≡? 0) (λ r. rw r) (λ r. rw r))) (λ t. rw t))

zeros_end_in : (x y z : ℕ) → x ≡ 0 → y ≡ 0 → z ≤ 2 → is_forbidden x y z ≡ true
zeros_end_in x y z a b c = rw (a, b, le-leb z 2 c)

drop_end : (s : List ℕ) (p : ℕ) → length s ≤ p → drop p s ≡ []
drop_end s p h = no_length (drop p s) (let l = length-drop p s in omega arith)

module _ (s : List ℕ) where
  abbrev forbidden : ℕ → Bool
  forbidden i = is_forbidden (byte_at s i) (byte_at s (i + 1)) (byte_at s (i + 2))

  begins_at : (i : ℕ) → is_forbidden (byte_at s i) (byte_at (drop (i + 1) s) 0) (byte_at (drop (i + 1) s) 1) ≡ forbidden i
  begins_at i =
      let a : i + 1 + 0 ≡ i + 1 = omega arith in
      let b : i + 1 + 1 ≡ i + 2 = omega arith in
      rw (get_or-drop (i + 1) s 0 0, get_or-drop (i + 1) s 1 0, a, b)

  past : (j : ℕ) → length s ≤ j → byte_at s j ≡ 0
  past j h = get_or-eq_default s 0 h

  first_not : (i : ℕ) → (byte_at s i ≡ 0 → ⊥) → forbidden i ≡ false
  first_not i h = no_first (byte_at s i) (byte_at s (i + 1)) (byte_at s (i + 2)) h

  second_not : (i : ℕ) → (byte_at s (i + 1) ≡ 0 → ⊥) → forbidden i ≡ false
  second_not i h = no_second (byte_at s i) (byte_at s (i + 1)) (byte_at s (i + 2)) h

  third_not : (i : ℕ) → 2 < byte_at s (i + 2) → forbidden i ≡ false
  third_not i h = no_third (byte_at s i) (byte_at s (i + 1)) (byte_at s (i + 2)) h

  -- two zeros at the end
  zeros_stand : (i : ℕ) → byte_at s i ≡ 0 → byte_at s (i + 1) ≡ 0 → byte_at s (i + 2) ≤ 2 → forbidden i ≡ true
  zeros_stand i a b c = zeros_end_in (byte_at s i) (byte_at s (i + 1)) (byte_at s (i + 2)) a b c

  pub stop_end : (i : ℕ) → length s ≤ i → unit_stop s i ≡ i
  unfolding unit_stop
  stop_end i h = rw (drop_end s i h, stop_none) (add-zero i)

  pub zero_end : (i : ℕ) → length s ≤ i → zeros_end s i ≡ i
  unfolding zeros_end
  zero_end i h = rw (drop_end s i h, lead_none) (add-zero i)

  module _ (i : ℕ) (h : i < length s) where
    stop_at : forbidden i ≡ true → unit_stop s i ≡ i
    unfolding unit_stop
    stop_at e = rw (← split_one s i h, stop_here (byte_at s i) (drop (i + 1) s) (begins_at i ∙ e)) (add-zero i)

    stop_on : forbidden i ≡ false → unit_stop s (i + 1) ≡ unit_stop s i
    unfolding unit_stop
    stop_on e = let k = stop_on_list (byte_at s i) (drop (i + 1) s) (begins_at i ∙ e) in let z = ap clear_length (split_one s i h) in omega arith

    pub zero_at : (byte_at s i ≡ 0 → ⊥) → zeros_end s i ≡ i
    unfolding zeros_end
    zero_at e = rw (← split_one s i h) (by_number (byte_at s i) (λ z. absurd (e z)) (λ x z. rw (z, lead_byte x (drop (i + 1) s)) (add-zero i)))

    pub zero_on : byte_at s i ≡ 0 → zeros_end s (i + 1) ≡ zeros_end s i
    unfolding zeros_end
    zero_on e = let k = lead_zero (drop (i + 1) s) in let z = ap leading_zeros (sym (split_one s i h)) in let y = rw e at z in omega arith

  pub stop_two : (i : ℕ) → i + 2 ≤ length s → (byte_at s (i + 1) ≡ 0 → ⊥) → unit_stop s (i + 2) ≡ unit_stop s i
  stop_two i h e =
      let z : i + 1 + 1 ≡ i + 2 = omega arith in
      ap (unit_stop s) (sym z) ∙ stop_on (i + 1) (omega arith) (first_not (i + 1) e) ∙ stop_on i (omega arith) (second_not i e)

  pub stop_three : (i : ℕ) → i + 3 ≤ length s → 2 < byte_at s (i + 2) → unit_stop s (i + 3) ≡ unit_stop s i
  stop_three i h e =
      let z : i + 1 + 2 ≡ i + 3 = omega arith in
      let y : i + 1 + 1 ≡ i + 2 = omega arith in
      ap (unit_stop s) (sym z) ∙ stop_two (i + 1) (omega arith) (rw y (λ k. omega arith)) ∙ stop_on i (omega arith) (third_not i e)

  pub stop_last : (i : ℕ) → i < length s → length s ≤ i + 2 → (byte_at s (length s - 1) ≡ 0 → ⊥) → unit_stop s i ≡ length s
  stop_last i h l e = by_bool (length s ≡? i + 1)
      (λ t.
      let z = eqb-true (length s) (i + 1) t in
      let y : length s - 1 ≡ i = omega arith in
      sym (stop_on i h (first_not i (rw y at e))) ∙ stop_end (i + 1) (omega arith) ∙ sym z)
      (λ t.
      let z = eqb-false (length s) (i + 1) t in
      let y : length s - 1 ≡ i + 1 = omega arith in
      let w : i + 2 ≡ length s = omega arith in
      sym (stop_two i (omega arith) (rw y at e)) ∙ stop_end (i + 2) (omega arith) ∙ w)

  pub stop_one : (i : ℕ) → i < length s → (byte_at s i ≡ 0 → ⊥) → unit_stop s (i + 1) ≡ unit_stop s i
  stop_one i h e = stop_on i h (first_not i e)

  pub stop_zeros : (i : ℕ) → i < length s → byte_at s i ≡ 0 → byte_at s (i + 1) ≡ 0 → byte_at s (i + 2) ≤ 2 → unit_stop s i ≡ i
  stop_zeros i h a b c = stop_at i h (zeros_stand i a b c)

  -- one zero at the end
  pub stop_single : (i : ℕ) → i + 1 ≡ length s → byte_at s (length s - 1) ≡ 0 → unit_stop s i ≡ i
  stop_single i l e =
      let z : length s - 1 ≡ i = omega arith in
      let a = past (i + 1) (omega arith) in
      let b = past (i + 2) (omega arith) in
      stop_zeros i (omega arith) (rw z at e) a (omega arith)

  pub stop_pair : (i : ℕ) → i + 2 ≡ length s → byte_at s (length s - 1) ≡ 0 → byte_at s i ≡ 0 → unit_stop s i ≡ i
  stop_pair i l e z =
      let y : length s - 1 ≡ i + 1 = omega arith in
      let b = past (i + 2) (omega arith) in
      stop_zeros i (omega arith) z (rw y at e) (omega arith)

  pub stop_first : (i : ℕ) → i + 2 ≡ length s → byte_at s (length s - 1) ≡ 0 → (byte_at s i ≡ 0 → ⊥) → unit_stop s i ≡ i + 1
  stop_first i l e z = sym (stop_one i (omega arith) z) ∙ stop_single (i + 1) (omega arith) e

  pub stop_inside : (i : ℕ) → i ≤ length s → (i ≤ unit_stop s i) × (unit_stop s i ≤ length s)
  unfolding unit_stop
  stop_inside i h = let k = clear_most (drop i s) in let l = length-drop i s in (omega arith, omega arith)

  pub zeros_inside : (i : ℕ) → i ≤ length s → (i ≤ zeros_end s i) × (zeros_end s i ≤ length s)
  unfolding zeros_end
  zeros_inside i h = let k = lead_most (drop i s) in let l = length-drop i s in (omega arith, omega arith)

-- the answers
pub streamable_none : (u : List ℕ) → length u ≡ 0 → is_streamable u ≡ false
unfolding is_streamable
streamable_none u e = rw (eq-eqb (length u) 0 e)

pub streamable_by : (u : List ℕ) → (length u ≡ 0 → ⊥) → is_streamable u ≡ (unit_stop u 0 ≡? length u)
unfolding unit_stop
streamable_by u h = streamable_stop u h ∙ ap (λ (n : ℕ). n ≡? length u) (sym (zero-add (clear_length u)))
