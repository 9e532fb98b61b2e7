-- What the call answers, by what was measured. Assumes nothing.
--
--   counted_refused      a refusal
--   Read, read_units     what was measured is what is written
--   accept_count         an answer that is a count
use Prim.Native.Nat.{ℕ, ◌+◌, ◌≤◌}
use mathlib.Core.Path.{◌≡◌, refl, ap, sym, ◌∙◌}
use mathlib.Core.List.{List, map}
use borrow.Author.Tests.{ltb-false}
use lib.ListN.{length}
use Rattle.words.specs.Tests.{◌<?◌}
use Rattle.words.specs.Refusals.{Answer, refused, ok}
use Rattle.words.specs.Buffers.{overwrite, within, counted, Wrote}
use Rattle.words.proofs.Tests.{by_bool}
use Rattle.words.proofs.Refusals.{and_ok, ok_refused, ok_same}
use Rattle.byte_streams.specs.Reading.{strip, parts_verdict, units_in, sample_with, sample_made}
use Rattle.byte_streams.specs.Places.{zeros_end}
use Rattle.stream_reader.specs.Steps.{parts_after}
use Rattle.stream_reader.proofs.Front.{read_started}

pub counted_refused : (a : Answer (List ℕ)) {r : Answer ℕ} {n p : ℕ} → r ≡ counted a → r ≡ refused n p → a ≡ refused n p
counted_refused (refused m q) e f = cc
counted_refused (ok out) e f = ok_refused (sym f ∙ e)

module _ (L : ℕ) (s : List ℕ) (first : ℕ) (at : first ≡ zeros_end s 0) where
  units_ok : (us : List (List ℕ)) → units_in L s ≡ ok us → us ≡ map strip (parts_after s first)
  units_ok us f = sym (ok_same (and_ok (parts_verdict L (first + 1) (parts_after s first)) (ok (map strip (parts_after s first))) (read_started s first at L f)).1)

pub record Read (L room : ℕ) (s : List ℕ) (first c : ℕ) : Type 0 where
  pub units : units_in L s ≡ ok (map strip (parts_after s first))
  pub size : length (sample_with L (map strip (parts_after s first))) ≡ c
  pub fits : length (sample_with L (map strip (parts_after s first))) ≤ room
  pub answer : within room (sample_made L (units_in L s)) ≡ ok (sample_with L (map strip (parts_after s first)))

pub read_units :
    (L room : ℕ) (s : List ℕ) (first : ℕ) {r : Answer ℕ} {c : ℕ} →
    first ≡ zeros_end s 0 → r ≡ counted (within room (sample_made L (units_in L s))) → r ≡ ok c → Read L room s first c
read_units L room s first {r} {c} at e f =
    let w = go (units_in L s) (units_ok L s first at) (sym f ∙ e) in
    record { units = w.0; size = w.1; fits = w.2; answer = w.3 }
  where
    go :
        (a : Answer (List (List ℕ))) → ((us : List (List ℕ)) → a ≡ ok us → us ≡ map strip (parts_after s first)) → ok c ≡ counted (within room (sample_made L a)) →
        let us = map strip (parts_after s first) in
        let out = sample_with L us in
        (a ≡ ok us) × (length out ≡ c) × (length out ≤ room) × (within room (sample_made L a) ≡ ok out)
    go (refused n p) f g = ok_refused (sym g)
    go (ok us) f g = rw (← f us refl) (by_bool (room <? length (sample_with L us))
        (λ t. ok_refused (sym (rw t at g)))
        (λ t. let h : ok c ≡ ok (length (sample_with L us)) = rw t at g in (refl, sym (ok_same h), ltb-false room (length (sample_with L us)) t, rw t)))

pub accept_count : {o o' out : List ℕ} {a : Answer (List ℕ)} {c : ℕ} → a ≡ ok out → length out ≡ c → o' ≡ overwrite o out → Wrote o o' (ok c) a
accept_count e z f = record { answer = rw e (ap ok (sym z)); buffer = rw e f }
