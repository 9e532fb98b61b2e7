-- Units written one after the other over a buffer o, from a place on, that has room there for all that a good sample delivers. Assumes nothing.
--
--   unit_inside           the unit at hand lies in its sample
--   Puts, puts_start      what a loop has written
--   puts_length           the buffer's length stays
--   puts_room, puts_fit   there is room for the unit at hand
--   puts_take, puts_end   one unit more; all
use Prim.Native.Nat.{ℕ, ◌+◌, ◌≤◌}
use mathlib.Core.Path.{◌≡◌, ap, sym, ◌∙◌}
use mathlib.Core.List.{List, [], ◌∷◌, ◌++◌}
use native.Mathlib.Omega.{arith}
use lib.ListN.{length, length-append}
use Rattle.words.proofs.Entries.{map_append}
use Rattle.words.specs.Refusals.{ok}
use Rattle.words.specs.Buffers.{write_at, put}
use Rattle.words.proofs.Buffers.{write_none, write_length}
use Rattle.words.proofs.Numbered.{put_after}
use Rattle.units.specs.Units.{Sample}
use Rattle.bundles.specs.Recordings.{Recording, content_of}
use Rattle.resolution_rules.specs.Resolving.{sample_of, Span, own, delivered, judged}
use Rattle.delivery.specs.Steps.{start, step_of}
use Rattle.delivery.specs.Deliveries.{Delivery, span_for, unit_for, spans}
use Rattle.delivery.specs.declared.Cursor.{Cursor}
use Rattle.delivery.specs.declared.DeliveredUnit.{DeliveredUnit}
use Rattle.delivery.specs.declared.Stepped.TheVariants as step
use Rattle.delivery.proofs.Rests.{rest}
use Rattle.delivery.proofs.Deliveries.{deliveries_spans}
use Rattle.resolution.specs.Framing.{framed_unit, framed}
use Rattle.resolution.specs.declared.writing.Framing.{Framing}
use Rattle.resolution.proofs.Framing.{framed_none, framed_one, framed_append, framed_length}
use Rattle.delivery.proofs.Folds.{Folded, folded_start, folded_unit, folded_split, folded_done, step_inside}

pub unit_inside :
    (r : Recording) (n : ℕ) (x : Sample) → x ≡ own r n → (c : Cursor) {u : DeliveredUnit} {d : Cursor} → step_of r n x c ≡ step.Unit u d →
    u.span.start.0 + u.span.size ≤ length (content_of r u.span.sample.0)
unfolding sample_of
unit_inside r n x same c e = step_inside r n x (rw same) c e

module _ (f : Framing) (r : Recording) (n : ℕ) (x : Sample) (from : ℕ) where
  -- the units are written over o from its place from on, up to at
  abbrev pub Puts : List ℕ → List ℕ → ℕ → List Delivery → Type 0
  Puts o out at ds = (out ≡ write_at o from (framed f r (spans ds))) × (at ≡ from + length (framed f r (spans ds))) × (from + length (framed f r (spans ds)) ≤ length o)

  pub puts_start : (o : List ℕ) → from ≤ length o → Folded r n x (Puts o o from) start
  puts_start o h = folded_start r n x (Puts o o from) (rw (framed_none f r) (write_none o from, omega arith, omega arith))

  module _ (o out : List ℕ) (at : ℕ) (c : Cursor) (w : Folded r n x (Puts o out at) c) where
    pub puts_length : length out ≡ length o
    puts_length = rw w.holds.0 (write_length o from (framed f r (spans w.us)) (let h = w.holds.2 in omega arith))

    module _ (same : x ≡ own r n) (good : judged r n ≡ ok tt) where
      pub puts_end : step_of r n x c ≡ step.Done → (at ≡ from + length (framed f r (delivered r n))) × (out ≡ write_at o from (framed f r (delivered r n)))
      puts_end e = let h = folded_done r n x (Puts o out at) c w same good e in (rw (deliveries_spans r n) at h.1, rw (deliveries_spans r n) at h.0)

      module _ {u : DeliveredUnit} {d : Cursor} (e : step_of r n x c ≡ step.Unit u d) where
        abbrev U : Span
        U = span_for u.span

        one : framed f r (spans (w.us ++ (unit_for u ∷ []))) ≡ framed f r (spans w.us) ++ framed_unit f r U
        one = ap (framed f r) (map_append (λ (a : Delivery). a.span) w.us (unit_for u ∷ [])) ∙ framed_append f r (spans w.us) (U ∷ []) ∙ rw (framed_one f r U)

        module _ (room : from + length (framed f r (delivered r n)) ≤ length o) where
          fits : from + length (framed f r (spans w.us)) + length (framed_unit f r U) ≤ length o
          fits =
              let vs = spans (rest r n x d) in
              let p : delivered r n ≡ spans w.us ++ (U ∷ vs) =
              sym (deliveries_spans r n) ∙ ap spans (folded_split r n x (Puts o out at) c w same good e) ∙ map_append (λ (a : Delivery). a.span) w.us (unit_for u ∷ rest r n x d) in
              let s : framed f r (delivered r n) ≡ framed f r (spans w.us) ++ framed f r (U ∷ vs) = ap (framed f r) p ∙ framed_append f r (spans w.us) (U ∷ vs) in
              let t : framed f r (U ∷ vs) ≡ framed f r (U ∷ []) ++ framed f r vs = framed_append f r (U ∷ []) vs in
              let a = ap length s ∙ length-append (framed f r (spans w.us)) (framed f r (U ∷ vs)) in
              let b = ap length t ∙ length-append (framed f r (U ∷ [])) (framed f r vs) in
              let g = ap length (framed_one f r U) in
              omega arith

          pub puts_fit : at + length (framed_unit f r U) ≤ length o
          puts_fit = let i = fits in let h = w.holds.1 in omega arith

          pub puts_room : at + (4 + u.span.size) ≤ length o
          puts_room = let i = fits in let l = framed_length f r U (unit_inside r n x same c e) in let h = w.holds.1 in omega arith

          pub puts_take : Folded r n x (Puts o (put out at (framed_unit f r U)) (at + length (framed_unit f r U))) d
          puts_take =
              let i = fits in
              let l = ap length one ∙ length-append (framed f r (spans w.us)) (framed_unit f r U) in
              let h = w.holds.1 in
              folded_unit r n x (Puts o out at) c w (Puts o (put out at (framed_unit f r U)) (at + length (framed_unit f r U)))
              (rw (w.holds.0, one) (put_after o (framed f r (spans w.us)) (framed_unit f r U) from at h (omega arith)), omega arith, omega arith) e
