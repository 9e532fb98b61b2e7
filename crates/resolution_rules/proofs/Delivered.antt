-- What is delivered, unit by unit: the laws that loops over the units of a sample follow. Assumes nothing.
--
--   aggregator_only, extractor_only                               no unit is both
--   delivered_unit_lem, -aggregator, -extractor                   what is delivered for a unit
--   delivered_with, delivered_tops                                what is delivered for a top-level unit with what it includes, and for all of them
--   delivered_top, delivered_included                             for a top-level unit that is no aggregator, and for one that is
--   extract_judge                                                 23 to 28 of the extractor at a place
--   unit_judge, unit_judge_lem, unit_passes                       the same for any unit: nothing where it is no extractor
--   with_judge, with_top, with_included_lem                       for a top-level unit with what it includes
--   extractors_units, extractors_tops                             23 to 28 by a walk over all units, or over the top-level units
--   judged_form, judged_extractors                                14 to 28 by parts
--   output_none, output_one, output_append, output_each           the output as it grows
--   Inside, span_length, written_length                           a span that lies in its sample
--   output_size, size_none, size_one, size_append, output_length  the length of the output as a sum
use Prim.Native.Nat.{ℕ, ◌+◌, ◌≤◌}
use mathlib.Core.Path.{◌≡◌, refl, ap, ◌∙◌}
use mathlib.Core.List.{List, [], ◌∷◌, ◌++◌, map, append-nil, Memᴰ}
use mathlib.Core.Bool.{true, false}
use native.Mathlib.Omega.{arith}
use borrow.Author.Tests.{ne_eqb, eqb-true}
use lib.ListN.{length, length-append}
use Rattle.words.specs.Tests.{pick}
use Rattle.words.specs.Refusals.{refused, ok, Verdict, ◌and_then◌, ◌at_place◌, first}
use Rattle.words.specs.Lists.{keep, each, sum}
use Rattle.words.specs.Bytes.{bytes}
use Rattle.words.proofs.Lists.{each_append, each_each, map_cong}
use Rattle.words.proofs.Positions.{part_length}
use Rattle.words.proofs.Bytes.{bytes_length}
use Rattle.units.specs.Units.{Sample, type, aggregator_type, extractor_type, is_aggregator, is_extractor, top_units}
use Rattle.units.specs.Aggregators.{included, with_included, units, extractors}
use Rattle.samples.specs.Check.{check}
use Rattle.bundles.specs.Recordings.{Recording, content_of}
use Rattle.words.proofs.Entries.{sum_append, map_append}
use Rattle.copies.specs.Written.{length_before}
use Rattle.resolution_rules.specs.Resolving.{Span, span_of, own, extract_fault, copied_at, delivered_at, delivered, judged}
use Rattle.resolution_rules.specs.Calls.{span_bytes, written, output}
use Rattle.words.proofs.Joined.{each_length, first_keep, first_each}

module _ (x : Sample) (p : ℕ) where
  pub aggregator_only : is_aggregator x p ≡ true → is_extractor x p ≡ false
  aggregator_only t = let e = eqb-true (type x p) aggregator_type t in ne_eqb (type x p) extractor_type (omega arith)

  pub extractor_only : is_extractor x p ≡ true → is_aggregator x p ≡ false
  extractor_only t = let e = eqb-true (type x p) extractor_type t in ne_eqb (type x p) aggregator_type (omega arith)

module _ (r : Recording) (n : ℕ) where
  pub delivered_unit_lem : (p : ℕ) → is_aggregator (own r n) p ≡ false → is_extractor (own r n) p ≡ false → delivered_at r n p ≡ span_of n (own r n) p ∷ []
  unfolding delivered_at keep
  delivered_unit_lem p a e = rw (a, e)

  pub delivered_aggregator : (p : ℕ) → is_aggregator (own r n) p ≡ true → delivered_at r n p ≡ []
  unfolding delivered_at keep
  delivered_aggregator p a = rw (a, aggregator_only (own r n) p a)

  pub delivered_extractor : (p : ℕ) → is_extractor (own r n) p ≡ true → delivered_at r n p ≡ copied_at r n p
  unfolding delivered_at
  delivered_extractor p e = rw e

  -- top-level unit by top-level unit
  abbrev pub delivered_with : ℕ → List Span
  delivered_with p = each (delivered_at r n) (with_included (own r n) p)

  pub delivered_tops : delivered r n ≡ each delivered_with (top_units (own r n))
  unfolding delivered units
  delivered_tops = each_each (delivered_at r n) (with_included (own r n)) (top_units (own r n))

  pub delivered_top : (p : ℕ) → is_aggregator (own r n) p ≡ false → delivered_with p ≡ delivered_at r n p
  unfolding each with_included
  delivered_top p a = rw a (append-nil (delivered_at r n p))

  pub delivered_included : (p : ℕ) → is_aggregator (own r n) p ≡ true → delivered_with p ≡ each (delivered_at r n) (included (own r n) p)
  unfolding each with_included
  delivered_included p a = rw (a, delivered_aggregator p a)

  -- 23 to 28: what a walk over all units finds
  abbrev pub extract_judge : ℕ → Verdict
  extract_judge p = extract_fault r n p at_place p

  unfoldable pub unit_judge : ℕ → Verdict
  unit_judge p = pick (is_extractor (own r n) p) (extract_judge p) (ok tt)

  pub unit_judge_lem : (p : ℕ) → is_extractor (own r n) p ≡ true → unit_judge p ≡ extract_fault r n p at_place p
  unfolding unit_judge
  unit_judge_lem p e = rw e

  pub unit_passes : (p : ℕ) → is_extractor (own r n) p ≡ false → unit_judge p ≡ ok tt
  unfolding unit_judge
  unit_passes p e = rw e

  unfoldable pub with_judge : ℕ → Verdict
  with_judge p = first unit_judge (with_included (own r n) p)

  pub extractors_units : first extract_judge (extractors (own r n)) ≡ first unit_judge (units (own r n))
  unfolding extractors unit_judge
  extractors_units = first_keep extract_judge (is_extractor (own r n)) (units (own r n))

  pub extractors_tops : first extract_judge (extractors (own r n)) ≡ first with_judge (top_units (own r n))
  unfolding with_judge units
  extractors_tops = extractors_units ∙ first_each unit_judge (with_included (own r n)) (top_units (own r n))

  pub with_top : (p : ℕ) → is_aggregator (own r n) p ≡ false → with_judge p ≡ unit_judge p
  unfolding with_judge with_included first
  with_top p a = rw a (same (unit_judge p))
    where
      same : (v : Verdict) → (v and_then ok tt) ≡ v
      same (refused m q) = refl
      same (ok u) = refl

  pub with_included_lem : (p : ℕ) → is_aggregator (own r n) p ≡ true → with_judge p ≡ first unit_judge (included (own r n) p)
  unfolding with_judge with_included first
  with_included_lem p a = rw (a, unit_passes p (aggregator_only (own r n) p a))

  -- 14 to 28 by parts
  pub judged_form : {m q : ℕ} → check (own r n) ≡ refused m q → judged r n ≡ refused m q
  unfolding judged
  judged_form e = rw e

  pub judged_extractors : check (own r n) ≡ ok tt → judged r n ≡ first extract_judge (extractors (own r n))
  unfolding judged
  judged_extractors e = rw e

-- the length of the output
unfoldable pub output_size : List Span → ℕ
output_size us = sum (map (λ u. length_before + u.size) us)

pub size_none : output_size [] ≡ 0
unfolding output_size sum
size_none = refl

pub size_one : (u : Span) → output_size (u ∷ []) ≡ length_before + u.size
unfolding output_size sum
size_one u = omega arith

pub size_append : (us vs : List Span) → output_size (us ++ vs) ≡ output_size us + output_size vs
unfolding output_size
size_append us vs = rw (map_append (λ u. length_before + u.size) us vs) (sum_append (map (λ u. length_before + u.size) us) (map (λ u. length_before + u.size) vs))

-- the output as it grows
module _ (r : Recording) where
  pub output_none : output r [] ≡ []
  unfolding output each
  output_none = refl

  pub output_one : (u : Span) → output r (u ∷ []) ≡ written r u
  unfolding output each
  output_one u = append-nil (written r u)

  pub output_append : (us vs : List Span) → output r (us ++ vs) ≡ output r us ++ output r vs
  unfolding output
  output_append us vs = each_append (written r) us vs

  pub output_each : {A : Type 0} (f : A → List Span) (xs : List A) → output r (each f xs) ≡ each (λ x. output r (f x)) xs
  unfolding output
  output_each f xs = each_each (written r) f xs

  -- a span that lies in its sample
  abbrev pub Inside : Span → Type 0
  Inside u = u.start + u.size ≤ length (content_of r u.sample)

  pub span_length : (u : Span) → Inside u → length (span_bytes r u) ≡ u.size
  span_length u h = part_length (content_of r u.sample) u.start u.size h

  pub written_length : (u : Span) → Inside u → length (written r u) ≡ length_before + u.size
  unfolding written
  written_length u h = let a = span_length u h in let b = bytes_length length_before u.size in length-append (bytes length_before u.size) (span_bytes r u) ∙ omega arith

  pub output_length : (us : List Span) → ((u : Span) → Memᴰ u us → Inside u) → length (output r us) ≡ output_size us
  unfolding output output_size
  output_length us h = each_length (written r) us ∙ ap sum (map_cong _ _ us (λ u m. written_length u (h u m)))
