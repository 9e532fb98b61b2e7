-- The check of a sample (01, 'Units in a sample'): both walks, left at the first fault. 14 to 22, each at the unit's length field.
--
--   inside_verdict p      the inside fault of the top-level unit at p: 14 to 20 and 22
--   cover_verdict p       its 21
--   content_verdict p     the one, then the other
--   top_verdict           the first walk: 14 to 18 of the top-level units
--   contents_verdict      the second walk: what stands in them
--   check, well_formed    both walks; a sample without a fault is well formed
--   check_alone           the check outside a bundle
--   answer_of             the code's answer in these words
use Rattle.std.specs.Prelude.{ℕ, List, Bool, Err, Ok, Option, Result}
use Rattle.words.specs.Tests.{pick}
use Rattle.words.specs.Refusals.{refused, ok, Verdict, ◌and_then◌, ◌at_place◌, first, passed}
use Rattle.numbers.specs.Kinds.{kind_of, on_kind}
use Rattle.numbers.specs.Sizes.{length_size_of, on_length_size}
use Rattle.units.specs.Units.{Sample, end, next, is_aggregator, unit_fault, top_units}
use Rattle.units.specs.Extractors.{extractor_fault}
use Rattle.units.specs.Aggregators.{included, included_fault, cover_fault}
use Rattle.numbers.specs.declared.Kind.{Kind}
use Rattle.numbers.specs.declared.Refusal.{Refusal}
use Rattle.numbers.specs.declared.LengthSize.{LengthSize}

module _ (x : Sample) where
  -- The inside fault of a top-level unit: an aggregator's included units front to back, each its 14 to 20 and 22; an extractor's 22.
  unfoldable pub inside_verdict : ℕ → Verdict
  inside_verdict p =
      pick (is_aggregator x p)
      (first (λ q. included_fault x (next x p) q at_place q) (included x p))
      (extractor_fault x p at_place p)

  -- 21, which only an aggregator has
  unfoldable pub cover_verdict : ℕ → Verdict
  cover_verdict p = pick (is_aggregator x p) (cover_fault x p at_place p) (ok tt)

  -- What stands in a top-level unit.
  unfoldable pub content_verdict : ℕ → Verdict
  content_verdict p = inside_verdict p and_then cover_verdict p

  -- First all top-level units, then top-level units again.
  abbrev pub top_verdict : Verdict
  top_verdict = first (λ p. unit_fault x (end x) p at_place p) (top_units x)

  abbrev pub contents_verdict : Verdict
  contents_verdict = first content_verdict (top_units x)

  unfoldable pub check : Verdict
  check = top_verdict and_then contents_verdict

  -- Well formed: a sample without a fault.
  abbrev pub well_formed : Bool
  well_formed = passed check

-- Outside a bundle the kind and the length size come as numbers: 4 first, then 11, both at 0.
abbrev pub check_of : Option Kind → Option LengthSize → List ℕ → Verdict
check_of kind length_size s =
    on_kind kind (λ k. on_length_size length_size (λ l. check (record { kind = k; length_size = l; content = s })))

abbrev pub check_alone : ℕ → ℕ → List ℕ → Verdict
check_alone kind l s = check_of (kind_of kind) (length_size_of l) s

abbrev pub answer_of : Result (Unit {0}) Refusal → Verdict
answer_of (Ok tt) = ok tt
answer_of (Err r) = refused r.number r.place.0
