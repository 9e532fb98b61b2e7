-- Delivered units, each after 4 bytes. Assumes nothing.
--
--   framed_none, -one, -append     as they grow
--   framed_length                  the length of a unit so
--   framed_lengths                 after lengths: the output of resolving
--   framed_codes                   after start codes: the byte stream
use Prim.Native.Nat.{ℕ, ◌+◌, ◌≤◌}
use mathlib.Core.Path.{◌≡◌, refl, sym}
use mathlib.Core.List.{List, [], ◌∷◌, ◌++◌, append-nil}
use native.Mathlib.Omega.{arith}
use lib.ListN.{length, length-append}
use Rattle.words.specs.Lists.{each}
use Rattle.words.specs.Bytes.{bytes}
use Rattle.words.proofs.Bytes.{bytes_length}
use Rattle.words.proofs.Lists.{each_append, each_map}
use Rattle.byte_streams.specs.Writing.{start_code, stream_of}
use Rattle.bundles.specs.Recordings.{Recording, content_of}
use Rattle.copies.specs.Written.{length_before}
use Rattle.resolution_rules.specs.Resolving.{Span}
use Rattle.resolution_rules.specs.Calls.{span_bytes, bytes_of, written, output}
use Rattle.resolution_rules.proofs.Delivered.{span_length}
use Rattle.resolution.specs.Framing.{front_of, framed_unit, framed}
use Rattle.resolution.specs.declared.writing.Framing.{Framing}
use Rattle.resolution.specs.declared.writing.Framing.TheVariants.{Lengths, StartCodes}

module _ (f : Framing) (r : Recording) where
  pub framed_none : framed f r [] ≡ []
  unfolding framed each
  framed_none = refl

  pub framed_one : (u : Span) → framed f r (u ∷ []) ≡ framed_unit f r u
  unfolding framed each
  framed_one u = append-nil (framed_unit f r u)

  pub framed_append : (us vs : List Span) → framed f r (us ++ vs) ≡ framed f r us ++ framed f r vs
  unfolding framed
  framed_append us vs = each_append (framed_unit f r) us vs

  pub framed_length : (u : Span) → u.start + u.size ≤ length (content_of r u.sample) → length (framed_unit f r u) ≡ 4 + u.size
  unfolding framed_unit
  framed_length u h =
      let a = span_length r u h in
      let b = bytes_length length_before (front_of f u.size) in
      let l = length-append (bytes length_before (front_of f u.size)) (span_bytes r u) in
      omega arith

pub framed_lengths : (r : Recording) (us : List Span) → framed Lengths r us ≡ output r us
unfolding framed framed_unit output written
framed_lengths r us = refl

pub framed_codes : (r : Recording) (us : List Span) → framed StartCodes r us ≡ stream_of (bytes_of r us)
unfolding framed framed_unit stream_of bytes
framed_codes r us = sym (each_map (λ (u : List ℕ). start_code ++ u) (span_bytes r) us)
