-- What is said of a unit u that starts at a. Assumes nothing.
--
--   judged_empty, -long, -inside     by its length
--   inside_some                      a unit with 33 inside is not empty
--   unit_inside                      nothing is refused inside a unit that is good
use Prim.Native.Nat.{ℕ, ◌-◌, ◌^◌, ◌≤◌, ◌<◌}
use mathlib.Core.Path.{◌≡◌, sym}
use mathlib.Core.List.{List, [], ◌∷◌}
use native.Mathlib.Omega.{arith}
use borrow.Author.Tests.{eq-eqb, ne_eqb, le-leb, lt-leb}
use lib.ListN.{length}
use Rattle.words.specs.Tests.{◌≤?◌, ◌≡?◌}
use Rattle.words.specs.RefusalNumbers.{bad_byte_stream, unit_exceeds_length_size}
use Rattle.words.specs.Refusals.{◌if◌, Answer, refused, ok, ◌at_place◌, ◌and_then◌}
use Rattle.words.proofs.Refusals.{and_ok, ok_refused}
use Rattle.byte_streams.specs.Reading.{inside_verdict, unit_verdict}

module _ {A : Type 0} (L a : ℕ) (u : List ℕ) (w : Answer A) where
  pub judged_empty : length u ≡ 0 → (unit_verdict L a u and_then w) ≡ refused bad_byte_stream (a - 1)
  unfolding unit_verdict
  judged_empty h = rw (eq-eqb (length u) 0 h)

  module _ (some : length u ≡ 0 → ⊥) where
    pub judged_long : 256 ^ L ≤ length u → (unit_verdict L a u and_then w) ≡ refused unit_exceeds_length_size a
    unfolding unit_verdict
    judged_long h = rw (ne_eqb (length u) 0 some, le-leb (256 ^ L) (length u) h)

    pub judged_inside : length u < 256 ^ L → (unit_verdict L a u and_then w) ≡ (inside_verdict 0 a u and_then w)
    unfolding unit_verdict
    judged_inside h = rw (ne_eqb (length u) 0 some, lt-leb (256 ^ L) (length u) h)

pub inside_some : (a : ℕ) (u : List ℕ) {n q : ℕ} → inside_verdict 0 a u ≡ refused n q → length u ≡ 0 → ⊥
unfolding inside_verdict
inside_some a [] e z = ok_refused (sym e)
inside_some a (x ∷ u) e z = omega arith

pub unit_inside : (L a : ℕ) (u : List ℕ) → unit_verdict L a u ≡ ok tt → inside_verdict 0 a u ≡ ok tt
unfolding unit_verdict
unit_inside L a u e =
    let b = and_ok ((bad_byte_stream if length u ≡? 0) at_place (a - 1)) _ e in
    (and_ok ((unit_exceeds_length_size if 256 ^ L ≤? length u) at_place a) (inside_verdict 0 a u) b.1).1
