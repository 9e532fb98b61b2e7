-- The loop that writes: what is written so far, with what is left, is the sample. Assumes nothing.
--
--   sample_after                                the sample of the units after a start code
--   Writing, writing_start, -next, -full, -end  what holds in the loop, and what is written when it ends
--   writing_length                              the buffer keeps its length
--   writing_place                               where the next unit stands, and that it fits
use Prim.Native.Nat.{ℕ, ◌+◌, ◌-◌, ◌≤◌, ◌<◌}
use mathlib.Core.Path.{◌≡◌, refl, ap, sym, ◌∙◌}
use mathlib.Core.List.{List, [], ◌++◌, map, append_assoc, append-nil}
use native.Mathlib.Omega.{arith}
use lib.ListN.{length, length-append}
use Rattle.words.specs.Refusals.{ok}
use Rattle.words.specs.Bytes.{bytes, part}
use Rattle.words.specs.Buffers.{write_at, overwrite, put}
use Rattle.words.proofs.Refusals.{and_ok}
use Rattle.words.proofs.Bytes.{bytes_length}
use Rattle.words.proofs.Buffers.{write_none, write_first, write_length, put_next}
use Rattle.byte_streams.specs.Reading.{strip, unit_verdict, parts_verdict, units_in, sample_with}
use Rattle.byte_streams.specs.Places.{unit_stop, zeros_end}
use Rattle.byte_streams.proofs.Units.{no_length}
use Rattle.byte_streams.proofs.Samples.{sample_none, sample_more}
use Rattle.stream_reader.specs.Steps.{unit_from, next_from, parts_after}
use Rattle.stream_reader.proofs.Totals.{sample_size_lem}
use Rattle.stream_reader.proofs.Found.{next_inside, next_by, parts_none}
use Rattle.stream_reader.proofs.Walks.{verdict_unit, Step, step}
use Rattle.stream_reader.proofs.Front.{first_inside, read_started}

module _ (L : ℕ) (s : List ℕ) where
  -- the sample of the units after the start code whose 01 stands at p
  abbrev pub sample_after : ℕ → List ℕ
  sample_after p = sample_with L (map strip (parts_after s p))

  module _ (first : ℕ) where
    pub record Writing (o out : List ℕ) (at p : ℕ) : Type 0 where
      pub inside : p ≤ length s
      pub good : parts_verdict L (p + 1) (parts_after s p) ≡ ok tt
      pub done : List ℕ
      pub is : out ≡ write_at o 0 done
      pub here : at ≡ length done
      pub all : done ++ sample_after p ≡ sample_after first
      pub fits : length (sample_after first) ≤ length o

    pub writing_start :
        (o : List ℕ) → first ≡ zeros_end s 0 → units_in L s ≡ ok (map strip (parts_after s first)) → length (sample_after first) ≤ length o → Writing o o 0 first
    writing_start o at e f = record {
      inside = first_inside s first at;
      good = (and_ok (parts_verdict L (first + 1) (parts_after s first)) _ (read_started s first at L e)).0;
      done = [];
      is = write_none o 0;
      here = refl;
      all = refl;
      fits = f;
    }

    module _ (o out : List ℕ) (at p : ℕ) (c : Writing o out at p) where
      done_fits : length c.done + length (sample_after p) ≤ length o
      done_fits =
          let a = sym (length-append c.done (sample_after p)) ∙ ap length c.all in
          let f = c.fits in
          omega arith

      pub writing_length : length out ≡ length o
      writing_length = let f = done_fits in rw c.is (write_length o 0 c.done (omega arith))

      -- all is written
      pub writing_full : at ≡ length (sample_after first) → out ≡ overwrite o (sample_after first)
      writing_full h =
          let l = sym (length-append c.done (sample_after p)) ∙ ap length c.all in
          let k = c.here in
          let none : sample_after p ≡ [] = no_length (sample_after p) (omega arith) in
          let all : c.done ≡ sample_after first = sym (append-nil c.done) ∙ ap (λ l. c.done ++ l) (sym none) ∙ c.all in
          c.is ∙ ap (write_at o 0) all ∙ write_first o (sample_after first)

      pub writing_end : length s ≤ p → out ≡ overwrite o (sample_after first)
      writing_end h =
          let none : sample_after p ≡ [] = ap (λ vs. sample_with L (map strip vs)) (parts_none s p h) ∙ sample_none L in
          let l = sym (length-append c.done (sample_after p)) ∙ ap length c.all in
          let m = ap length none in
          let k = c.here in
          writing_full (omega arith)

      module _ (h : p < length s) where
        abbrev u : List ℕ
        u = unit_from s (p + 1)

        abbrev next : ℕ
        next = next_from s (p + 1)

        on : Step L s p
        on = step L s p h (and_ok (unit_verdict L (p + 1) u) _ (sym (verdict_unit L s p h) ∙ c.good)).0

        room : at + L + length u ≤ length o
        room =
            let f = done_fits in
            let k = c.here in
            let m = ap (λ us. length (sample_with L us)) on.units ∙ sample_size_lem L u (map strip (parts_after s next)) in
            omega arith

        taken : Writing o (put (put out at (bytes L (length u))) (at + L) u) (at + L + length u) next
        taken =
            let b = bytes L (length u) in
            let r = room in
            let k = c.here in
            let q = bytes_length L (length u) in
            let d = length-append c.done b in
            let x = length-append (c.done ++ b) u in
            let one : put out at b ≡ write_at o 0 (c.done ++ b) = ap (λ z. put z at b) c.is ∙ put_next o c.done b at k (omega arith) in
            let more : sample_after p ≡ (b ++ u) ++ sample_after next = ap (sample_with L) on.units ∙ sample_more L u (map strip (parts_after s next)) in
            record {
              inside = (next_inside s (p + 1) (omega arith)).2;
              good = sym on.verdict ∙ c.good;
              done = (c.done ++ b) ++ u;
              is = ap (λ z. put z (at + L) u) one ∙ put_next o (c.done ++ b) u (at + L) (omega arith) (omega arith);
              here = omega arith;
              all =
                  ap (λ z. z ++ sample_after next) (append_assoc c.done b u)
                  ∙ append_assoc c.done (b ++ u) (sample_after next)
                  ∙ ap (λ z. c.done ++ z) (sym more)
                  ∙ c.all;
              fits = c.fits;
            }

        -- by where the unit stops
        module _ (stop : ℕ) (is : stop ≡ unit_stop s (p + 1)) where
          pub writing_place : (p + 1 ≤ stop) × (stop ≤ length s) × (at + L + (stop - (p + 1)) ≤ length o)
          writing_place =
              let i = next_inside s (p + 1) (omega arith) in
              let z = on.size in
              let r = room in
              (omega arith, omega arith, omega arith)

          pub writing_next :
              (e : ℕ) → e ≡ zeros_end s stop →
              (p < e) × Writing o (put (put out at (bytes L (stop - (p + 1)))) (at + L) (part s (p + 1) (stop - (p + 1)))) (at + L + (stop - (p + 1))) e
          writing_next e to =
              let n = next_by s (p + 1) stop is to in
              let z : stop - (p + 1) ≡ length u = let k = on.size in omega arith in
              let v : part s (p + 1) (stop - (p + 1)) ≡ u = rw is (sym on.unit) in
              let i = next_inside s (p + 1) (omega arith) in
              (omega arith, rw (v, z, n) taken)
