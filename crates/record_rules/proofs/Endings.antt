-- The ways to end a record: callers use these, not the text of `ending_of`. Assumes nothing.
--
--   by_ending                                   no trailer belongs there; one does and no byte follows; one does and a byte follows
--   ending_none, ending_absent, ending_present  the way that the record ends then
use Prim.Native.Nat.{ℕ, ◌≤◌, ◌<◌}
use mathlib.Core.Path.{◌≡◌}
use mathlib.Core.Bool.{true, false}
use mathlib.Core.List.{List}
use borrow.Author.Tests.{leb-true, leb-false, le-leb, lt-leb}
use lib.ListN.{length}
use Rattle.words.specs.Tests.{◌≤?◌}
use Rattle.words.specs.Bytes.{byte_at}
use Rattle.words.proofs.Tests.{by_bool}
use Rattle.numbers.specs.declared.Kind.{Kind}
use Rattle.record_rules.specs.Trailers.{trailer_belongs, high_of, ending_of}
use Rattle.record_rules.specs.declared.Trailer.TheVariants.{None, Absent, Present}

module _ (k : Kind) (s : List ℕ) (q : ℕ) where
  pub by_ending :
      {G : Type 0} → (trailer_belongs k (byte_at s 1) ≡ false → G) → (trailer_belongs k (byte_at s 1) ≡ true → length s ≤ q → G) →
      (trailer_belongs k (byte_at s 1) ≡ true → q < length s → G) → G
  by_ending f g h =
      by_bool (trailer_belongs k (byte_at s 1))
      (λ t. by_bool (length s ≤? q) (λ u. g t (leb-true _ _ u)) (λ u. h t (leb-false _ _ u)))
      f

  pub ending_none : trailer_belongs k (byte_at s 1) ≡ false → ending_of k s q ≡ None
  ending_none t = rw t

  pub ending_absent : trailer_belongs k (byte_at s 1) ≡ true → length s ≤ q → ending_of k s q ≡ Absent
  ending_absent t l = rw (t, le-leb (length s) q l)

  pub ending_present : trailer_belongs k (byte_at s 1) ≡ true → q < length s → ending_of k s q ≡ Present (high_of s q)
  ending_present t l = rw (t, lt-leb (length s) q l)
