-- The unit of a stream s that starts at a, by where it stops and where the zeros after it end. Assumes nothing.
--
--   next_inside              it stops at a or after, and the zeros end there or after, inside the stream
--   next_by                  so the code finds where they end
--   parts_here, parts_none   the parts after a start code; after none
--   Good                     nothing or a start code follows: the unit is what stands up to its stop
--   Bad                      a byte follows that may not: 33 there, and the unit goes on with it
--   found                    one of the two
--   found_good, found_bad    which of them, by the byte where the zeros end
use Prim.Native.Nat.{ℕ, suc, ◌+◌, ◌-◌, ◌≤◌, ◌<◌}
use mathlib.Core.Path.{◌≡◌, refl, ap, sym, ◌∙◌}
use mathlib.Core.Logic.{◌⊎◌, inl, inr, ⊎_elim}
use mathlib.Core.List.{List, [], ◌∷◌, ◌++◌, append_assoc}
use native.Mathlib.Omega.{arith}
use borrow.Author.Tests.{lt-ltb, le-ltb}
use lib.ListN.{length, take, drop, length-append, length-replicate, length-drop}
use lib.Seq.{drop-drop}
use Rattle.words.specs.RefusalNumbers.{bad_byte_stream}
use Rattle.words.specs.Refusals.{refused, ok}
use Rattle.words.specs.Bytes.{byte_at, part}
use Rattle.words.proofs.Positions.{at_append, at_cons}
use Rattle.byte_streams.specs.Grammar.{zeros}
use Rattle.byte_streams.specs.Reading.{Parts, split, strip, inside_verdict}
use Rattle.byte_streams.specs.Places.{clear_length, unit_stop, leading_zeros, zeros_end}
use Rattle.byte_streams.proofs.Splits.{strip_zeros}
use Rattle.byte_streams.proofs.Inside.{BadAfter}
use Rattle.byte_streams.proofs.Places.{stop_inside, zeros_inside}
use Rattle.byte_streams.proofs.Stops.{clear_length_lem, stop_clear, stop_good, Stop, stop_by, end_split, code_split, bad_unit}
use Rattle.stream_reader.specs.Steps.{unit_from, next_from, parts_after}

module _ (s : List ℕ) (p : ℕ) where
  pub parts_here : p < length s → parts_after s p ≡ (split (drop (p + 1) s)).before ∷ (split (drop (p + 1) s)).after
  unfolding parts_after
  parts_here h = rw (lt-ltb p (length s) h)

  pub parts_none : length s ≤ p → parts_after s p ≡ []
  unfolding parts_after
  parts_none h = rw (le-ltb p (length s) h)

pub record Good (s : List ℕ) (a : ℕ) : Type 0 where
  pub byte : next_from s a < length s → byte_at s (next_from s a) ≡ 1
  pub unit : unit_from s a ≡ part s a (unit_stop s a - a)
  pub size : length (unit_from s a) ≡ unit_stop s a - a
  pub verdict : inside_verdict 0 a (unit_from s a) ≡ ok tt
  pub after : (split (drop a s)).after ≡ parts_after s (next_from s a)
  pub place : next_from s a < length s → a + length (split (drop a s)).before + 2 ≡ next_from s a

pub record Bad (s : List ℕ) (a : ℕ) : Type 0 where
  pub inside : next_from s a < length s
  pub byte : 1 < byte_at s (next_from s a)
  pub verdict : inside_verdict 0 a (unit_from s a) ≡ refused bad_byte_stream (next_from s a)
  pub on : a + length (unit_from s a) ≡ next_from s a + length (unit_from s (next_from s a))

module _ (s : List ℕ) (a : ℕ) where
  pub next_inside : a ≤ length s → (a ≤ unit_stop s a) × (unit_stop s a ≤ next_from s a) × (next_from s a ≤ length s)
  unfolding next_from
  next_inside h =
      let i = stop_inside s a h in
      let j = zeros_inside s (unit_stop s a) i.1 in
      (i.0, j.0, j.1)

  -- the bytes from a on, and those before the stop
  abbrev v : List ℕ
  v = drop a s

  abbrev u : List ℕ
  u = take (clear_length v) v

  pub next_by : (stop : ℕ) {next : ℕ} → stop ≡ unit_stop s a → next ≡ zeros_end s stop → next ≡ next_from s a
  unfolding next_from
  next_by stop e f = f ∙ ap (zeros_end s) e

  next_is : next_from s a ≡ a + clear_length v + leading_zeros (drop (clear_length v) v)
  unfolding next_from zeros_end unit_stop
  next_is = ap (λ l. a + clear_length v + leading_zeros l) (sym (drop-drop (clear_length v) a s))

  stop_is : unit_stop s a - a ≡ clear_length v
  unfolding unit_stop
  stop_is = omega arith

  -- a unit and its zeros
  unit_is : (k : ℕ) → (split v).before ≡ u ++ zeros k → unit_from s a ≡ u
  unfolding unit_from
  unit_is k e = ap strip e ∙ strip_zeros u k (stop_clear v).1

  module _ (h : a ≤ length s) where
    good :
        (k : ℕ) → (split v).before ≡ u ++ zeros k → (next_from s a < length s → byte_at s (next_from s a) ≡ 1) →
        (split v).after ≡ parts_after s (next_from s a) → (next_from s a < length s → a + clear_length v + k + 2 ≡ next_from s a) → Good s a
    good k e byte after place =
        let z = unit_is k e in
        let l = ap length e ∙ length-append u (zeros k) in
        let m : length (zeros k) ≡ k = length-replicate k 0 in
        let n = clear_length_lem v in
        record {
          byte = byte;
          unit = z ∙ ap (λ (i : ℕ). take i v) (sym stop_is);
          size = ap length z ∙ n ∙ sym stop_is;
          verdict = ap (inside_verdict 0 a) z ∙ stop_good v a;
          after = after;
          place = λ i. let q = place i in omega arith;
        }

    at_end : (k : ℕ) → u ++ zeros k ≡ v → next_from s a ≡ a + clear_length v + k → Good s a
    at_end k e n =
        let r = ap split (sym e) ∙ end_split u k (stop_clear v).0 in
        let l = ap length e in
        let m = length-append u (zeros k) in
        let c : length (zeros k) ≡ k = length-replicate k 0 in
        let b = clear_length_lem v in
        let d = length-drop a s in
        let z : next_from s a ≡ length s = omega arith in
        good k (ap (λ (x : Parts). x.before) r) (λ i. absurd (omega arith))
        (ap (λ (x : Parts). x.after) r ∙ sym (parts_none s (next_from s a) (omega arith))) (λ i. absurd (omega arith))

    at_code : (k : ℕ) (t : List ℕ) → u ++ (zeros k ++ (0 ∷ 0 ∷ 1 ∷ t)) ≡ v → next_from s a ≡ a + clear_length v + (k + 2) → Good s a
    at_code k t e n =
        let r = ap split (sym e) ∙ code_split u k t (stop_clear v).0 in
        let w = u ++ (zeros k ++ (0 ∷ 0 ∷ [])) in
        let l = length-append u (zeros k ++ (0 ∷ 0 ∷ [])) in
        let m = length-append (zeros k) (0 ∷ 0 ∷ []) in
        let c : length (zeros k) ≡ k = length-replicate k 0 in
        let b = clear_length_lem v in
        let two : length {A = ℕ} (0 ∷ 0 ∷ []) ≡ 2 = refl in
        let z : a + length w ≡ next_from s a = omega arith in
        let f : v ≡ w ++ (1 ∷ t) = sym e ∙ sym (append_assoc u (zeros k ++ (0 ∷ 0 ∷ [])) (1 ∷ t) ∙ ap (λ x. u ++ x) (append_assoc (zeros k) (0 ∷ 0 ∷ []) (1 ∷ t))) in
        let g = at_cons s (next_from s a) 1 t (rw z at (at_append s a w (1 ∷ t) h f).next) in
        let i = g.there in
        good k (ap (λ (x : Parts). x.before) r) (λ j. g.byte)
        (ap (λ (x : Parts). x.after) r ∙ sym (parts_here s (next_from s a) i ∙ ap (λ x. (split x).before ∷ (split x).after) g.next))
        (λ j. omega arith)

    at_bad :
        (k x : ℕ) (t : List ℕ) → BadAfter k (suc (suc x)) → u ++ (zeros k ++ (suc (suc x) ∷ t)) ≡ v → next_from s a ≡ a + clear_length v + k → Bad s a
    unfolding unit_from
    at_bad k x t bad e n =
        let w = u ++ zeros k in
        let l = length-append u (zeros k) in
        let c : length (zeros k) ≡ k = length-replicate k 0 in
        let b = clear_length_lem v in
        let z : a + length w ≡ next_from s a = omega arith in
        let f : v ≡ w ++ (suc (suc x) ∷ t) = sym e ∙ sym (append_assoc u (zeros k) (suc (suc x) ∷ t)) in
        let d : drop (next_from s a) s ≡ suc (suc x) ∷ t = rw z at (at_append s a w (suc (suc x) ∷ t) h f).next in
        let g = at_cons s (next_from s a) (suc (suc x)) t d in
        let r = bad_unit v k x t (sym e) bad a in
        let q = ap (λ l. length (strip (split l).before)) d in
        let i = r.1 in
        record {
          inside = g.there;
          byte = let j = g.byte in omega arith;
          verdict = r.0 ∙ ap (refused bad_byte_stream) (sym n);
          on = omega arith;
        }

    by_stop : {w : List ℕ} {k : ℕ} → Stop u w k → w ≡ v → next_from s a ≡ a + clear_length v + k → Good s a ⊎ Bad s a
    by_stop (Stop.end k) e n = inl (at_end k e n)
    by_stop (Stop.code k t) e n = inl (at_code k t e n)
    by_stop (Stop.bad k x t bad) e n = inr (at_bad k x t bad e n)

    pub found : Good s a ⊎ Bad s a
    found = by_stop (stop_by v) refl next_is

    module _ (next : ℕ) (e : next ≡ next_from s a) where
      pub found_good : (next < length s → byte_at s next ≡ 1) → Good s a
      found_good b = ⊎_elim
          (λ g. g)
          (λ g. let i = g.inside in let above = g.byte in let one = ap (byte_at s) (sym e) ∙ b (omega arith) in absurd (omega arith))
          found

      pub found_bad : next < length s → (byte_at s next ≡ 1 → ⊥) → Bad s a
      found_bad i b = ⊎_elim (λ g. absurd (b (ap (byte_at s) e ∙ g.byte (omega arith)))) (λ g. g) found
