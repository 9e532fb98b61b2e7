-- The refusal of a sample, as a line holds it. Assumes nothing.
--
--   number_some     its number is not 0
--   number_fits     and fits the byte of a line
--   place_inside    its place lies in the sample
use Prim.Native.Nat.{ℕ, ◌^◌, ◌<◌}
use mathlib.Core.Path.{refl}
use native.Mathlib.Omega.{arith}
use borrow.Author.Tests.{eqb-false, leb-false}
use lib.Dec.{eqb, leb}
use lib.ListN.{length}
use Rattle.words.specs.RefusalNumbers.{sample_refusals}
use Rattle.words.specs.Lists.{some, ◌∈◌}
use Rattle.words.specs.Tests.{◌≤?◌, ◌≡?◌}
use Rattle.words.proofs.Tests.{by_bool, true_false}
use Rattle.words.proofs.Lists.{some_mem}
use Rattle.bundles.specs.Recordings.{Recording, content_of}
use Rattle.resolution_rules.specs.Rules.{JudgedRefusal}
use Rattle.audit_rules.specs.Auditing.{refusal_size}

-- no number of the set is 0, or too large for its byte
module _ {m : ℕ} (h : m ∈ sample_refusals) where
  not_none : 0 < m
  unfolding some
  not_none = by_bool (eqb m 0)
      (λ q. true_false _ (some_mem (λ n. n ≡? 0) sample_refusals h q) refl)
      (λ q. let z = eqb-false m 0 q in omega arith)

  in_byte : m < 256 ^ refusal_size
  unfolding some
  in_byte = by_bool (leb (256 ^ refusal_size) m)
      (λ q. true_false _ (some_mem (λ n. 256 ^ refusal_size ≤? n) sample_refusals h q) refl)
      (λ q. leb-false (256 ^ refusal_size) m q)

module _ (r : Recording) (n : ℕ) {m p : ℕ} (w : JudgedRefusal r n m p) where
  pub number_some : 0 < m
  number_some = not_none w.0

  pub number_fits : m < 256 ^ refusal_size
  number_fits = in_byte w.0

  pub place_inside : p < length (content_of r n)
  place_inside = w.1
