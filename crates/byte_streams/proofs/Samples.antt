-- The sample made of the units of a byte stream, and the call. Assumes nothing.
--
--   sample_none, sample_more     the sample of no unit, and of one unit more
--   sample_unique                a sample is that of one list of units only
--   read_zeros                   a stream of zeros only has no units
--   call_unknown, call_known     the call by its length size
use Rattle.std.specs.Prelude.{None, Option, Some}
use Prim.Native.Nat.{ℕ, ◌<◌}
use mathlib.Core.Path.{◌≡◌, refl, ap, ap₂, sym, ◌∙◌, subst}
use mathlib.Core.List.Memᴰ
use mathlib.Core.List.{List, [], ◌∷◌, ◌++◌, append_assoc, append-nil}
use native.Mathlib.Omega.{arith}
use lib.ListN.{length, take, drop, length-append}
use lib.Seq.{take_at, drop_at, take-append_seam, drop-append_seam}
use Rattle.words.specs.RefusalNumbers.{bad_length_size}
use Rattle.words.specs.Refusals.{Answer, refused, ok}
use Rattle.words.specs.Lists.{each}
use Rattle.words.specs.Bytes.{bytes, big}
use Rattle.words.specs.Buffers.{within}
use Rattle.words.proofs.Bytes.{bytes_length, big_bytes}
use Rattle.numbers.specs.Sizes.{in_bytes, length_size_of, on_length_size}
use Rattle.numbers.specs.declared.LengthSize.{LengthSize}
use Rattle.byte_streams.specs.Grammar.{zeros, StartCoded, ByteStream}
use Rattle.byte_streams.specs.Reading.{units_in, sample_with, sample_made, from_stream}
use Rattle.byte_streams.proofs.Reading.{AllFit, read_to}

pub sample_none : (L : ℕ) → sample_with L [] ≡ []
unfolding sample_with each
sample_none L = refl

pub sample_more : (L : ℕ) (u : List ℕ) (us : List (List ℕ)) → sample_with L (u ∷ us) ≡ (bytes L (length u) ++ u) ++ sample_with L us
unfolding sample_with each
sample_more L u us = refl

-- the first unit of a sample
from_length : (L : ℕ) (u : List ℕ) (us : List (List ℕ)) → sample_with L (u ∷ us) ≡ bytes L (length u) ++ (u ++ sample_with L us)
from_length L u us = sample_more L u us ∙ append_assoc (bytes L (length u)) u (sample_with L us)

longer : (L : ℕ) (v : List ℕ) (vs : List (List ℕ)) → 0 < L → sample_with L [] ≡ sample_with L (v ∷ vs) → ⊥
longer L v vs h e =
    let a = ap length (sym (sample_none L) ∙ e ∙ from_length L v vs) ∙ length-append (bytes L (length v)) (v ++ sample_with L vs) in
    let b = bytes_length L (length v) in
    let c : length {A = ℕ} [] ≡ 0 = refl in
    omega arith

pub sample_unique : (L : ℕ) (us vs : List (List ℕ)) → 0 < L → AllFit L us → AllFit L vs → sample_with L us ≡ sample_with L vs → us ≡ vs
sample_unique L [] [] h f g e = refl
sample_unique L [] (v ∷ vs) h f g e = absurd (longer L v vs h e)
sample_unique L (u ∷ us) [] h f g e = absurd (longer L u us h (sym e))
sample_unique L (u ∷ us) (v ∷ vs) h f g e =
    let w : bytes L (length u) ++ (u ++ sample_with L us) ≡ bytes L (length v) ++ (v ++ sample_with L vs) = sym (from_length L u us) ∙ e ∙ from_length L v vs in
    let n : length u ≡ length v =
    sym (big_bytes L (length u) (u ++ sample_with L us) (f u (Memᴰ.head refl))) ∙ ap (λ l. big l 0 L) w ∙ big_bytes L (length v) (v ++ sample_with L vs) (g v (Memᴰ.head refl)) in
    let r : u ++ sample_with L us ≡ v ++ sample_with L vs =
    sym (drop_at (bytes L (length u)) (u ++ sample_with L us) L (bytes_length L (length u))) ∙ ap (drop L) w ∙ drop_at (bytes L (length v)) (v ++ sample_with L vs) L (bytes_length L (length v)) in
    let z : u ≡ v = sym (take-append_seam u (sample_with L us)) ∙ ap (take (length u)) r ∙ take_at v (sample_with L vs) (length u) (sym n) in
    let y : sample_with L us ≡ sample_with L vs = sym (drop-append_seam u (sample_with L us)) ∙ ap (drop (length u)) r ∙ drop_at v (sample_with L vs) (length u) (sym n) in
    ap₂ ◌∷◌ z (sample_unique L us vs h (λ x m. f x (Memᴰ.tail m)) (λ x m. g x (Memᴰ.tail m)) y)

pub read_zeros : (L k : ℕ) → units_in L (zeros k) ≡ ok []
read_zeros L k =
    read_to L [] (zeros k) (subst (λ l. ByteStream [] l) (append-nil (zeros k)) (ByteStream.stream k StartCoded.none)) (λ u m. absurd (Memᴰ.not-nil m))

module _ (n : ℕ) (s : List ℕ) (room : ℕ) where
  abbrev by_size : Option LengthSize → Answer (List ℕ)
  by_size m = within room (on_length_size m (λ l. sample_made (in_bytes l) (units_in (in_bytes l) s)))

  pub call_unknown : length_size_of n ≡ None → from_stream n s room ≡ refused bad_length_size 0
  unfolding from_stream
  call_unknown e = ap by_size e

  pub call_known : (l : LengthSize) → length_size_of n ≡ Some l → from_stream n s room ≡ within room (sample_made (in_bytes l) (units_in (in_bytes l) s))
  unfolding from_stream
  call_known l e = ap by_size e
