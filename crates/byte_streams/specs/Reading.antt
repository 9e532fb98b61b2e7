-- The units of a byte stream s, and the sample made of them (02, [3]). L is the length size of the sample.
--
--   start_code_size       how many bytes a start code has; a zero before it, as [2] writes one, belongs to no unit
--   is_start_code x y z   whether three bytes are one: 00 00 01
--   begins_code x v       whether x before v begins a start code
--   Parts, split s        what stands before the first start code, and after each one up to the next or the end; by `split_cons`
--   strip v               v without the zeros at its end: a part's unit; by `strip_cons`
--   lead_verdict p v      33 at the first byte above 00 of v, which starts at p
--   is_bad_after z x      whether x may not follow z zeros in a unit: 02 after two, a byte above 01 after three or more
--   inside_verdict z p u  33 at the first such byte of u, which starts at p after z zeros
--   unit_verdict L p u    of the unit u, which starts at p: 33 at the 01 before it if it is empty; 34; 33 inside
--   parts_verdict L p vs  the first of these of the units of the parts vs, the first of which starts at p
--   units_in L s          the units, or the first 33 or 34 by place; by `units_of` of the parts
--   sample_with L us      each unit after its length in L bytes; by `sample_made` of an answer
--   from_stream n s room  the call, with length size n: 11, then 33 or 34, then 29
use Rattle.std.specs.Prelude.{ℕ, zero, suc, ◌+◌, ◌-◌, ◌^◌, List, [], ◌∷◌, ◌++◌, map, Bool, ◌&&◌, ◌||◌, length, drop}
use Rattle.words.specs.Tests.{◌≤?◌, ◌≡?◌, pick}
use Rattle.words.specs.RefusalNumbers.{bad_byte_stream, unit_exceeds_length_size}
use Rattle.words.specs.Refusals.{◌if◌, Answer, Verdict, refused, ok, ◌at_place◌, ◌and_then◌}
use Rattle.words.specs.Lists.{each}
use Rattle.words.specs.Bytes.{byte_at, bytes}
use Rattle.words.specs.Buffers.{within}
use Rattle.numbers.specs.Sizes.{in_bytes, length_size_of, on_length_size}

abbrev pub start_code_size : ℕ
start_code_size = 3

abbrev pub is_start_code : ℕ → ℕ → ℕ → Bool
is_start_code x y z = (x ≡? 0) && ((y ≡? 0) && (z ≡? 1))

unfoldable pub begins_code : ℕ → List ℕ → Bool
begins_code x v = is_start_code x (byte_at v 0) (byte_at v 1)

pub record Parts : Type 0 where
  pub before : List ℕ
  pub after : List (List ℕ)

-- the byte x before what is split already
unfoldable pub split_cons : ℕ → Parts → Parts
split_cons x r = pick (begins_code x r.before)
    (record { before = []; after = drop 2 r.before ∷ r.after })
    (record { before = x ∷ r.before; after = r.after })

unfoldable pub split : List ℕ → Parts
split [] = record { before = []; after = [] }
split (x ∷ s) = split_cons x (split s)

-- the byte x before what is stripped already
abbrev pub strip_cons : ℕ → List ℕ → List ℕ
strip_cons zero [] = []
strip_cons (suc x) [] = suc x ∷ []
strip_cons x (y ∷ v) = x ∷ y ∷ v

unfoldable pub strip : List ℕ → List ℕ
strip [] = []
strip (x ∷ v) = strip_cons x (strip v)

unfoldable pub lead_verdict : ℕ → List ℕ → Verdict
lead_verdict p [] = ok tt
lead_verdict p (zero ∷ v) = lead_verdict (suc p) v
lead_verdict p (suc x ∷ v) = refused bad_byte_stream p

-- a 01 after two zeros or more ends a start code, and stands in no unit
abbrev pub is_bad_after : ℕ → ℕ → Bool
is_bad_after z x = ((z ≡? 2) && (x ≡? 2)) || ((3 ≤? z) && (2 ≤? x))

unfoldable pub inside_verdict : ℕ → ℕ → List ℕ → Verdict
inside_verdict z p [] = ok tt
inside_verdict z p (zero ∷ u) = inside_verdict (suc z) (suc p) u
inside_verdict z p (suc x ∷ u) = (bad_byte_stream if is_bad_after z (suc x)) at_place p and_then inside_verdict 0 (suc p) u

unfoldable pub unit_verdict : ℕ → ℕ → List ℕ → Verdict
unit_verdict L p u =
    (bad_byte_stream if length u ≡? 0) at_place (p - 1) and_then
    (unit_exceeds_length_size if 256 ^ L ≤? length u) at_place p and_then
    inside_verdict 0 p u

unfoldable pub parts_verdict : ℕ → ℕ → List (List ℕ) → Verdict
parts_verdict L p [] = ok tt
parts_verdict L p (v ∷ vs) = let rest = parts_verdict L (p + length v + start_code_size) vs in unit_verdict L p (strip v) and_then rest

unfoldable pub units_of : ℕ → Parts → Answer (List (List ℕ))
units_of L r = lead_verdict 0 r.before and_then parts_verdict L (length r.before + start_code_size) r.after and_then ok (map strip r.after)

unfoldable pub units_in : ℕ → List ℕ → Answer (List (List ℕ))
units_in L s = units_of L (split s)

unfoldable pub sample_with : ℕ → List (List ℕ) → List ℕ
sample_with L us = each (λ u. bytes L (length u) ++ u) us

abbrev pub sample_made : ℕ → Answer (List (List ℕ)) → Answer (List ℕ)
sample_made L (refused n p) = refused n p
sample_made L (ok us) = ok (sample_with L us)

unfoldable pub from_stream : ℕ → List ℕ → ℕ → Answer (List ℕ)
from_stream n s room = within room (on_length_size (length_size_of n) (λ l. sample_made (in_bytes l) (units_in (in_bytes l) s)))
