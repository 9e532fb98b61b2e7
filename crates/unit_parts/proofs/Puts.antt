-- Where units stand, written two numbers at a time over the start of numbers o that are enough for all that a good sample delivers, by a
-- bundle and any table beside it. Assumes nothing.
--
--   Puts, puts_start           what a loop has written
--   puts_length                how many numbers there are stays
--   puts_end                   all
--   puts_inside                the unit at hand lies in the bundle
--   puts_room, puts_take       there is room for it; one unit more
use Prim.Native.Nat.{ℕ, ◌+◌, ◌≤◌}
use mathlib.Core.Path.{◌≡◌, refl, ap, sym, ◌∙◌}
use mathlib.Core.List.{List, [], ◌∷◌, ◌++◌, Memᴰ}
use native.Mathlib.Omega.{arith}
use lib.ListN.{length, length-append}
use Rattle.words.specs.Refusals.{ok}
use Rattle.words.specs.Buffers.{write_at, overwrite}
use Rattle.words.proofs.Entries.{map_append}
use Rattle.words.proofs.Buffers.{write_none, write_first, write_length, write_write}
use Rattle.units.specs.Units.{Sample}
use Rattle.bundles.specs.Recordings.{Recording}
use Rattle.tables.specs.Tables.{recording_in, start_in}
use Rattle.resolution_rules.specs.Resolving.{Span, own, delivered, judged}
use Rattle.resolution_rules.specs.Calls.{place_on, part_numbers, parts_by}
use Rattle.resolution_rules.proofs.Good.{good_rules}
use Rattle.resolution_rules.proofs.Exactly.{delivered_plain}
use Rattle.delivery.specs.Steps.{start, step_of}
use Rattle.delivery.specs.Deliveries.{Delivery, span_for, unit_for, spans}
use Rattle.delivery.specs.declared.Cursor.{Cursor}
use Rattle.delivery.specs.declared.DeliveredUnit.{DeliveredUnit}
use Rattle.delivery.specs.declared.Stepped.TheVariants as step
use Rattle.delivery.proofs.Rests.{rest}
use Rattle.delivery.proofs.Deliveries.{deliveries_spans}
use Rattle.delivery.proofs.Folds.{Folded, folded_start, folded_unit, folded_split, folded_done}
use Rattle.unit_parts.specs.Answers.{parts_in}
use Rattle.unit_parts.proofs.Parts.{parts_none, parts_append, parts_more, parts_length, part_inside}

module _ (b t : List ℕ) (n : ℕ) (x : Sample) where
  abbrev R : Recording
  R = recording_in b t

  abbrev Parts : List Delivery → List ℕ
  Parts ds = parts_by (start_in t) (spans ds)

  -- the numbers of the units are written over the start of o, up to at
  abbrev pub Puts : List ℕ → List ℕ → ℕ → List Delivery → Type 0
  Puts o out at ds = (out ≡ write_at o 0 (parts_by (start_in t) (spans ds))) × (at ≡ length (parts_by (start_in t) (spans ds))) × (length (parts_by (start_in t) (spans ds)) ≤ length o)

  pub puts_start : (o : List ℕ) → Folded (recording_in b t) n x (Puts o o 0) start
  puts_start o = folded_start R n x (Puts o o 0) (rw (parts_none (start_in t)) (write_none o 0, refl, omega arith))

  module _ (o out : List ℕ) (at : ℕ) (c : Cursor) (w : Folded (recording_in b t) n x (Puts o out at) c) where
    pub puts_length : length out ≡ length o
    puts_length = rw w.holds.0 (write_length o 0 (Parts w.us) (let h = w.holds.2 in omega arith))

    module _ (same : x ≡ own (recording_in b t) n) (good : judged (recording_in b t) n ≡ ok tt) where
      pub puts_end : step_of (recording_in b t) n x c ≡ step.Done → out ≡ overwrite o (parts_in b t n)
      puts_end e = let h = folded_done R n x (Puts o out at) c w same good e in rw (deliveries_spans R n) at h.0 ∙ write_first o (parts_in b t n)

      module _ {u : DeliveredUnit} {d : Cursor} (e : step_of (recording_in b t) n x c ≡ step.Unit u d) where
        abbrev U : Span
        U = span_for u.span

        -- the units so far, the one at hand, and those after it
        split : delivered R n ≡ spans w.us ++ (U ∷ spans (rest R n x d))
        split =
            sym (deliveries_spans R n) ∙ ap spans (folded_split R n x (Puts o out at) c w same good e)
            ∙ map_append (λ (a : Delivery). a.span) w.us (unit_for u ∷ rest R n x d)

        pub puts_inside : start_in t u.span.sample.0 + (u.span.start.0 + u.span.size) ≤ length b
        puts_inside =
            let m : Memᴰ U (delivered R n) = rw split (mathlib.Core.List.Memᴰ.append_right (spans w.us) (mathlib.Core.List.Memᴰ.head refl)) in
            let p = delivered_plain R n (good_rules R n good) U m in
            part_inside b t U p.some p.inside

        one : Parts (w.us ++ (unit_for u ∷ [])) ≡ Parts w.us ++ part_numbers (place_on (start_in t) U)
        one = ap (parts_by (start_in t)) (map_append (λ (a : Delivery). a.span) w.us (unit_for u ∷ [])) ∙ parts_more (start_in t) (spans w.us) U

        module _ (room : length (parts_in b t n) ≤ length o) where
          pub puts_room : at + 2 ≤ length o
          puts_room =
              let vs = spans (rest R n x d) in
              let a = ap (λ us. length (parts_by (start_in t) us)) split ∙ ap length (parts_append (start_in t) (spans w.us) (U ∷ vs)) ∙ length-append (Parts w.us) (parts_by (start_in t) (U ∷ vs)) in
              let l = parts_length (start_in t) (U ∷ vs) in
              let h = w.holds.1 in
              omega arith

          pub puts_take : Folded (recording_in b t) n x (Puts o (write_at out at (part_numbers (place_on (start_in t) (span_for u.span)))) (at + 2)) d
          puts_take =
              let f = puts_room in
              let q = part_numbers (place_on (start_in t) U) in
              let l = ap length one ∙ length-append (Parts w.us) q in
              let h = w.holds.1 in
              let z : at ≡ 0 + length (Parts w.us) = omega arith in
              folded_unit R n x (Puts o out at) c w (Puts o (write_at out at q) (at + 2))
              (rw (w.holds.0, one, z) (write_write o 0 (Parts w.us) q (omega arith)), omega arith, omega arith) e
