-- A kind and its number, a length size and its bytes, both ways. Assumes nothing.
--
--   kind_back, number_back    the kind of a kind's number; the number of a number's kind
--   size_back                 the length size of a length size's bytes
use Rattle.std.specs.Prelude.{None, Some}
use Prim.Native.Nat.{ℕ}
use mathlib.Core.Path.{◌≡◌, refl, sym}
use borrow.Author.Tests.{eqb-true}
use lib.Dec.{eqb}
use Rattle.words.proofs.Tests.{by_bool}
use Rattle.numbers.specs.Kinds.{number_of_kind, kind_of}
use Rattle.numbers.specs.Sizes.{in_bytes, length_size_of}
use Rattle.numbers.specs.declared.Kind.{Kind}
use Rattle.numbers.specs.declared.Kind.TheVariants.{Avc, Svc}
use Rattle.numbers.specs.declared.LengthSize.{LengthSize}
use Rattle.numbers.specs.declared.LengthSize.TheVariants.{One, Two, Four}
use Rattle.bundles.specs.Tracks.{known_kind, known_size}

pub kind_back : (k : Kind) → kind_of (number_of_kind k) ≡ Some k
kind_back Avc = refl
kind_back Svc = refl

pub number_back : (n : ℕ) → (kind_of n ≡ None → ⊥) → number_of_kind (known_kind (kind_of n)) ≡ n
number_back n h = by_bool (eqb n 0)
    (λ q. rw q (sym (eqb-true n 0 q)))
    (λ q. by_bool (eqb n 1) (λ s. rw (q, s) (sym (eqb-true n 1 s))) (λ s. absurd (h (rw (q, s)))))

pub size_back : (l : LengthSize) → known_size (length_size_of (in_bytes l)) ≡ l
size_back One = refl
size_back Two = refl
size_back Four = refl
