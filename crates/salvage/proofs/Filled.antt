-- Bytes written over a lent buffer, one part after the other. Assumes nothing.
--
--   Filled, filled_start, -length, -room, -put, -end    a loop that writes a whole: what is written so far, and the rest
--   put_none                                            nothing written
--   put_kept, put_zeroed                                a unit written in one part, and with additional_bytes 0 in three
--   change_put                                          a change, written as two numbers
use Prim.Native.Nat.{ℕ, ◌+◌, ◌-◌, ◌≤◌}
use mathlib.Core.Path.{◌≡◌, ap, ap₂, sym, ◌∙◌}
use mathlib.Core.List.{List, [], ◌++◌, append_assoc, append-nil}
use mathlib.Core.Bool.{true}
use native.Mathlib.Omega.{arith}
use lib.ListN.{length, drop, length-append}
use lib.Seq.{take-take}
use Rattle.words.specs.Tests.{◌≤?◌}
use Rattle.words.specs.Bytes.{bytes, part}
use Rattle.words.specs.Buffers.{write_at, overwrite, put}
use Rattle.words.proofs.Tests.{by_bool}
use Rattle.words.proofs.Bytes.{bytes_length}
use Rattle.words.proofs.Positions.{part_length, part_rest}
use Rattle.words.proofs.Joined.{part_part}
use Rattle.words.proofs.Numbered.{put_after, put_put}
use Rattle.words.proofs.Buffers.{write_none, write_first, write_length}
use Rattle.numbers.specs.Places.{place_size}
use Rattle.numbers.specs.Sizes.{header_size}
use Rattle.units.specs.Units.{Sample, L, end, next, is_aggregator}
use Rattle.units.specs.Rules.{Whole}
use Rattle.units.proofs.Units.{whole_end, whole_aggregator}
use Rattle.salvage_rules.specs.Salvage.{unit_bytes, zeroed_bytes, change, change_size, change_bytes}
use Rattle.salvage_rules.proofs.Reading.{change_length}

-- what is written of a whole so far, and the rest
pub record Filled (o whole rest : List ℕ) (next : ℕ) (out : List ℕ) : Type 0 where
  pub done : List ℕ
  pub is : out ≡ write_at o 0 done
  pub here : next ≡ length done
  pub split : whole ≡ done ++ rest
  pub fits : length whole ≤ length o

pub filled_start : (o whole rest : List ℕ) → whole ≡ rest → length whole ≤ length o → Filled o whole rest 0 o
filled_start o whole rest e h = record { done = []; is = write_none o 0; here = omega arith; split = e; fits = h }

module _ (o whole rest : List ℕ) (next : ℕ) (out : List ℕ) (c : Filled o whole rest next out) where
  sizes : length whole ≡ length c.done + length rest
  sizes = ap length c.split ∙ length-append c.done rest

  pub filled_length : length out ≡ length o
  filled_length = let f = c.fits in let s = sizes in rw c.is (write_length o 0 c.done (omega arith))

  pub filled_end : rest ≡ [] → (next ≡ length whole) × (out ≡ overwrite o whole)
  filled_end e =
      let s = sizes in
      let n = ap length e in
      let h = c.here in
      (omega arith, c.is ∙ ap (write_at o 0) (sym (append-nil c.done) ∙ ap (λ (l : List ℕ). c.done ++ l) (sym e) ∙ sym c.split) ∙ write_first o whole)

  module _ (b more : List ℕ) (e : rest ≡ b ++ more) where
    pub filled_room : next + length b ≤ length o
    filled_room = let f = c.fits in let s = sizes in let h = c.here in let l = ap length e ∙ length-append b more in omega arith

    pub filled_put : Filled o whole more (next + length b) (put out next b)
    filled_put =
        let h = c.here in
        let r = filled_room in
        let n = length-append c.done b in
        record {
          done = c.done ++ b;
          is = rw c.is (put_after o c.done b 0 next (omega arith) r);
          here = omega arith;
          split = c.split ∙ ap (λ (l : List ℕ). c.done ++ l) e ∙ sym (append_assoc c.done b more);
          fits = c.fits;
        }

pub put_none : (o : List ℕ) (p : ℕ) → o ≡ put o p []
unfolding put
put_none o p = by_bool (p + 0 ≤? length o) (λ t. rw t (write_none o p)) (λ t. rw t)

module _ (x : Sample) (p : ℕ) (w : Whole x (end x) p) where
  abbrev s : List ℕ
  s = x.content

  abbrev k : ℕ
  k = L x + header_size

  pub put_kept : (out : List ℕ) (o e : ℕ) → e ≡ next x p → put out o (part s p (e - p)) ≡ put out o (unit_bytes x p)
  unfolding unit_bytes
  put_kept out o e f = rw f

  module _ (t : is_aggregator x p ≡ true) where
    zeroed_parts : zeroed_bytes x p ≡ part s p k ++ (bytes (L x) 0 ++ part s (p + (k + L x)) (next x p - (p + (k + L x))))
    unfolding zeroed_bytes unit_bytes
    zeroed_parts =
        let g = whole_aggregator x (end x) p w t in
        let n = bytes_length (L x) 0 in
        let e = (whole_end x (end x) p w).1 in
        let len : length (part s p (next x p - p)) ≡ next x p - p = part_length s p (next x p - p) (omega arith) in
        let i : length (part s p (next x p - p)) - (k + L x) ≡ next x p - (p + (k + L x)) = omega arith in
        ap₂ (λ (a b : List ℕ). a ++ (bytes (L x) 0 ++ b))
        (take-take k (next x p - p) (drop p s) (omega arith))
        (ap (λ (m : ℕ). drop (k + m) (part s p (next x p - p))) n
        ∙ sym (part_rest (part s p (next x p - p)) (k + L x))
        ∙ ap (part (part s p (next x p - p)) (k + L x)) i
        ∙ part_part s p (next x p - p) (k + L x) (next x p - (p + (k + L x))) (omega arith))

    -- in three parts
    pub put_zeroed : (out : List ℕ) (o n head field rest e : ℕ) → n ≡ L x → head ≡ n + header_size → field ≡ p + head → rest ≡ field + n → e ≡ next x p → o + length (zeroed_bytes x p) ≤ length out →
        put (put (put out o (part s p (field - p))) (o + head) (bytes n 0)) (o + head + n) (part s rest (e - rest)) ≡ put out o (zeroed_bytes x p)
    put_zeroed out o n head field rest e a b c d f h =
        let g = whole_aggregator x (end x) p w t in
        let i = (whole_end x (end x) p w).1 in
        let u : field - p ≡ k = omega arith in
        let v : head ≡ k = omega arith in
        let y : rest ≡ p + (k + L x) = omega arith in
        let A = part s p k in
        let Z = bytes (L x) 0 in
        let B = part s (p + (k + L x)) (next x p - (p + (k + L x))) in
        let la : length A ≡ k = part_length s p k (omega arith) in
        let lz : length Z ≡ L x = bytes_length (L x) 0 in
        let lb : length B ≡ next x p - (p + (k + L x)) = part_length s (p + (k + L x)) (next x p - (p + (k + L x))) (omega arith) in
        let laz : length (A ++ Z) ≡ length A + length Z = length-append A Z in
        let lazb : length (A ++ Z ++ B) ≡ length (A ++ Z) + length B = length-append (A ++ Z) B in
        let all : length (zeroed_bytes x p) ≡ length (A ++ Z ++ B) = ap length (zeroed_parts ∙ sym (append_assoc A Z B)) in
        rw (u, v, y, a, f)
        (ap (λ (q : List ℕ). put q (o + k + L x) B) (put_put out A Z o (o + k) (omega arith) (omega arith))
        ∙ put_put out (A ++ Z) B o (o + k + L x) (omega arith) (omega arith)
        ∙ ap (put out o) (append_assoc A Z B ∙ sym zeroed_parts))

pub change_put : (o : List ℕ) (at w p : ℕ) → at + change_size ≤ length o → put (put o at (bytes 1 w)) (at + 1) (bytes place_size p) ≡ put o at (change_bytes (change w p))
change_put o at w p h =
    let n = change_length (change w p) in
    put_put o (bytes 1 w) (bytes place_size p) at (at + 1) (let a = bytes_length 1 w in omega arith) (omega arith)
