-- Laws for the steps of the reader. Assumes nothing.
--
--   head_there                  the bytes before the sequence sets are there
--   pictures_there              the picture sets, and where they end
--   follow_none, follow_absent  what follows the picture sets where no trailer is
--   answered                    the reader's answer, from what its steps answer
use Prim.Native.Nat.{ℕ, ◌+◌, ◌≤◌, ◌<◌}
use mathlib.Core.Path.{◌≡◌, refl, sym}
use mathlib.Core.Bool.{true, false}
use mathlib.Core.List.{List}
use native.Mathlib.Omega.{arith}
use native.Mathlib.Nat.{add-zero}
use lib.ListN.{length}
use Rattle.std.specs.Prelude.{Result, Ok, Err}
use Rattle.std.specs.Result.{IfOk}
use Rattle.words.specs.Refusals.{◌or_else◌}
use Rattle.words.specs.Bytes.{byte_at}
use Rattle.words.proofs.Refusals.{or_else_none, at_refused}
use Rattle.numbers.specs.Faults.{number_of_fault, fault_in, refused_at}
use Rattle.numbers.specs.declared.Kind.{Kind}
use Rattle.numbers.specs.declared.refusals.Fault.{Fault}
use Rattle.sets.specs.Sets.{sets_fault, sets_end}
use Rattle.numbers.proofs.Faults.{fault_some}
use Rattle.sets.proofs.Laws.{sets_none}
use Rattle.record_rules.specs.Answers.{answer_of}
use Rattle.record_rules.specs.Layout.{missing, picture_types}
use Rattle.record_rules.specs.Trailers.{extension_types, trailer_belongs, nothing, ending}
use Rattle.record_rules.specs.Read.{sequences_end, pictures_end, trailer_of, head_fault, follow_fault, record_fault, record_of, read_as}
use Rattle.record_rules.specs.declared.Record.{Record}
use Rattle.record_rules.specs.declared.Trailer.{Trailer}
use Rattle.record_rules.specs.declared.Trailer.TheVariants.{None, Absent}
use Rattle.record_rules.proofs.Endings.{ending_none, ending_absent}
use Rattle.record_rules.proofs.Parsed.{there, head_good, pictures_in_lem}
use Rattle.records.specs.Steps.{follow_of}

pub head_there : (k : Kind) (s : List ℕ) → 0 ≡ head_fault k s → 5 < length s
head_there k s e = (head_good k s (sym e)).there

pub pictures_there :
    (k : Kind) (s : List ℕ) {p q : ℕ} → p ≡ sequences_end k s → q ≡ sets_end s (byte_at s p) (p + 1) →
    0 ≡ (missing s p or_else sets_fault picture_types s (byte_at s p) (p + 1)) → (q ≤ length s) × (q ≡ pictures_end k s)
unfolding pictures_end
pictures_there k s {p} e f z =
    let m = or_else_none (missing s p) _ (sym z) in
    let j = pictures_in_lem k s (rw (← e) (there s p m.0)) (rw (← e) m.1) in
    rw (f, e) (j.1, refl)

-- what follows the picture sets, which end at q
module _ (k : Kind) (s : List ℕ) (q : ℕ) (at_end : q ≡ pictures_end k s) where
  abbrev Nothing : Trailer → Type 0
  Nothing t = (0 ≡ follow_fault k s) × (record { trailer = t; start = q; end = q } ≡ follow_of k s)

  follow_nothing : (t : Trailer) → trailer_of k s ≡ t → ending t ≡ nothing (ending t).belongs → Nothing t
  follow_nothing t e h =
      let n = sets_none extension_types s {n = 0} (q + 0) (omega arith) in
      rw (e, h, ← at_end) (sym n.0, rw (n.1, add-zero q))

  pub follow_none : trailer_belongs k (byte_at s 1) ≡ false → Nothing None
  follow_none t = follow_nothing None (ending_none k s (pictures_end k s) t) refl

  pub follow_absent : trailer_belongs k (byte_at s 1) ≡ true → length s ≤ q → Nothing Absent
  follow_absent t l = follow_nothing Absent (ending_absent k s (pictures_end k s) t (omega arith)) refl

pub answered :
    (k : Kind) (s : List ℕ) (r : Result Record Fault) → fault_in r ≡ record_fault k s → IfOk r (λ v. v ≡ record_of k s) →
    answer_of (refused_at 0 r) ≡ read_as k s
unfolding read_as
answered k s (Ok v) e i = rw (← e, i)
answered k s (Err f) e i = let p = fault_some f in rw (← e, at_refused {r = number_of_fault f} 0 refl (λ z. omega arith))
