-- Numbers read and written, by what was found on the way. Assumes nothing.
--
--   trailer_length, numbers_length           a trailer is 7 numbers, a record 18
--   trailer_cells                            numbers 11 to 17, one by one
--   read_refused, read_short, read_fits      a record that is refused, one without room, one with room
--   read_done                                the call that reads with room
--   fault_enough, fault_refuses, fault_none  numbers that give fields, and numbers that do not
use Prim.Native.Nat.{ℕ, ◌≤◌, ◌<◌}
use mathlib.Core.Path.{◌≡◌, refl, ap, ◌∙◌}
use mathlib.Core.List.{List, [], ◌∷◌}
use native.Mathlib.Omega.{arith}
use borrow.Author.Tests.{ltb-false}
use lib.ListN.{length, get_or}
use Rattle.words.specs.Tests.{◌<?◌}
use Rattle.words.specs.RefusalNumbers.{output_too_long}
use Rattle.words.specs.Refusals.{refused, ok, ◌at_place◌}
use Rattle.words.specs.Buffers.{overwrite, Wrote}
use Rattle.words.proofs.Refusals.{if_none, or_else_none}
use Rattle.words.proofs.Buffers.{within_room, within_not}
use Rattle.numbers.specs.declared.Kind.{Kind}
use Rattle.record_rules.specs.Read.{read_record}
use Rattle.record_rules.specs.declared.Trailer.{Trailer}
use Rattle.record_rules.specs.declared.Trailer.TheVariants.{None, Absent, Present}
use Rattle.record_rules.specs.declared.Part.{Part}
use Rattle.record_rules.specs.declared.Record.{Record}
use Rattle.record_writer.specs.Write.{write_as}
use Rattle.record_numbers.specs.Indices.{number_count}
use Rattle.record_numbers.specs.Numbers.{trailer_numbers, numbers_of, read_numbers, numbers_fault, fields_from, write_numbers_as}

pub trailer_length : (t : Trailer) (x : Part) → length (trailer_numbers t x) ≡ 7
trailer_length None x = refl
trailer_length Absent x = refl
trailer_length (Present t) x = refl

pub numbers_length : (r : Record) → length (numbers_of r) ≡ number_count
unfolding numbers_of
numbers_length r = let e = trailer_length r.fields.trailer r.extensions in omega arith

pub trailer_cells : (t : Trailer) (x : Part) → let ns = trailer_numbers t x in get_or ns 0 0 ∷ get_or ns 1 0 ∷ get_or ns 2 0 ∷ get_or ns 3 0 ∷ get_or ns 4 0 ∷ get_or ns 5 0 ∷ get_or ns 6 0 ∷ [] ≡ trailer_numbers t x
trailer_cells None x = refl
trailer_cells Absent x = refl
trailer_cells (Present t) x = refl

module _ (kind : ℕ) (s : List ℕ) (room : ℕ) where
  pub read_refused : {n p : ℕ} → refused n p ≡ read_record kind s → read_numbers kind s room ≡ refused n p
  unfolding read_numbers
  read_refused e = rw (← e)

  pub read_short : (r : Record) → ok r ≡ read_record kind s → room < number_count → read_numbers kind s room ≡ refused output_too_long 0
  unfolding read_numbers
  read_short r e h = rw (← e) (within_not room (numbers_of r) (omega (arith, h, numbers_length r)))

  pub read_fits : (r : Record) → ok r ≡ read_record kind s → number_count ≤ room → read_numbers kind s room ≡ ok (numbers_of r)
  unfolding read_numbers
  read_fits r e h = rw (← e) (within_room room (numbers_of r) (omega (arith, h, numbers_length r)))

-- the numbers of a record over the start of a slice
pub read_done : (kind : ℕ) (s o : List ℕ) (r : Record) {ns o' : List ℕ} → ok r ≡ read_record kind s → number_count ≤ length o → ns ≡ numbers_of r → o' ≡ overwrite o ns → Wrote o o' (ok number_count) (read_numbers kind s (length o))
read_done kind s o r e h f g =
    let fit = read_fits kind s (length o) r e h in
    record { answer = rw (fit, numbers_length r); buffer = rw fit (g ∙ ap (overwrite o) f) }

module _ (k : Kind) (ns : List ℕ) where
  pub fault_enough : numbers_fault k ns ≡ 0 → number_count ≤ length ns
  unfolding numbers_fault
  fault_enough e = ltb-false _ _ (if_none _ (length ns <? number_count) (or_else_none _ _ e).0)

  pub fault_refuses : (a b x : List ℕ) {n p : ℕ} → numbers_fault k ns at_place 0 ≡ refused n p → write_numbers_as k ns a b x ≡ refused n p
  unfolding write_numbers_as
  fault_refuses a b x e = rw e

  pub fault_none : (a b x : List ℕ) → numbers_fault k ns ≡ 0 → write_numbers_as k ns a b x ≡ write_as k (fields_from k ns) a b x
  unfolding write_numbers_as
  fault_none a b x e = rw e
