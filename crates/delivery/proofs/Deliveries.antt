-- What a sample delivers, each unit with where it comes from. Assumes nothing.
--
--   deliveries_spans                                     without that, it is what the sample delivers
--   deliveries_unit, -aggregator, -extractor             what is delivered for a unit
--   all_size, all_none, -one, -append                    the bytes of all
--   own_size, copied_size                                own and copied bytes as a loop adds them up
--   own_none, -add, -append, copied_none, -add, -append  none, a unit more, and some more
--   copied_own, copied_all, copies_length                units that are copied: none of their bytes is own; how many they are
--   parts_one                                            all bytes are own or copied
--   deliveries_own, deliveries_copied                    own and copied bytes of what a sample delivers
use Prim.Native.Nat.{ℕ, suc, ◌+◌}
use mathlib.Core.Path.{◌≡◌, refl, ap, sym, ◌∙◌}
use mathlib.Core.List.{List, [], ◌∷◌, ◌++◌, map}
use mathlib.Core.Bool.{true, false}
use native.Mathlib.Omega.{arith}
use lib.ListN.{length}
use Rattle.words.specs.Lists.{each, sum}
use Rattle.words.proofs.Tests.{by_bool}
use Rattle.words.proofs.Entries.{sum_append, map_append}
use Rattle.units.specs.Units.{is_aggregator, is_extractor}
use Rattle.units.specs.Aggregators.{units}
use Rattle.bundles.specs.Recordings.{Recording}
use Rattle.resolution_rules.specs.Resolving.{Span, span_of, own, copied_at, delivered_at, delivered}
use Rattle.resolution_rules.specs.Amounts.{total_size, own_bytes, copied_bytes}
use Rattle.resolution_rules.proofs.Delivered.{aggregator_only, delivered_unit_lem, delivered_aggregator, delivered_extractor}
use Rattle.resolution_rules.proofs.Amounts.{own_at, copied_size_at, own_unit, own_aggregator, own_extractor, copied_other, copied_extractor, own_sum, copied_sum}
use Rattle.delivery.specs.Deliveries.{Delivery, delivery, spans, copies_from, deliveries_at, deliveries, size_own, size_copied, own_part, copied_part}
use Rattle.delivery.specs.declared.Source.{Source}
use Rattle.delivery.specs.declared.Source.TheVariants.{Own, Copy}

unfoldable pub all_size : List Delivery → ℕ
all_size ds = sum (map (λ d. d.span.size) ds)

pub all_none : all_size [] ≡ 0
unfolding all_size sum
all_none = refl

pub all_one : (d : Delivery) → all_size (d ∷ []) ≡ d.span.size
unfolding all_size sum
all_one d = omega arith

pub all_append : (ds es : List Delivery) → all_size (ds ++ es) ≡ all_size ds + all_size es
unfolding all_size
all_append ds es = rw (map_append (λ (d : Delivery). d.span.size) ds es) (sum_append (map (λ (d : Delivery). d.span.size) ds) (map (λ (d : Delivery). d.span.size) es))

unfoldable pub own_size : List Delivery → ℕ
own_size ds = sum (map own_part ds)

unfoldable pub copied_size : List Delivery → ℕ
copied_size ds = sum (map copied_part ds)

pub own_append : (ds es : List Delivery) → own_size (ds ++ es) ≡ own_size ds + own_size es
unfolding own_size
own_append ds es = rw (map_append own_part ds es) (sum_append (map own_part ds) (map own_part es))

pub copied_append : (ds es : List Delivery) → copied_size (ds ++ es) ≡ copied_size ds + copied_size es
unfolding copied_size
copied_append ds es = rw (map_append copied_part ds es) (sum_append (map copied_part ds) (map copied_part es))

pub own_none : own_size [] ≡ 0
unfolding own_size sum
own_none = refl

pub own_add : (ds : List Delivery) (d : Delivery) → own_size (ds ++ (d ∷ [])) ≡ own_size ds + own_part d
unfolding own_size sum
own_add ds d = let a = own_append ds (d ∷ []) in omega arith

pub copied_none : copied_size [] ≡ 0
unfolding copied_size sum
copied_none = refl

pub copied_add : (ds : List Delivery) (d : Delivery) → copied_size (ds ++ (d ∷ [])) ≡ copied_size ds + copied_part d
unfolding copied_size sum
copied_add ds d = let a = copied_append ds (d ∷ []) in omega arith

parts_of_lem : (from : Source) (n : ℕ) → size_own from n + size_copied from n ≡ n
parts_of_lem Own n = omega arith
parts_of_lem (Copy p k) n = omega arith

pub parts_one : (d : Delivery) → own_part d + copied_part d ≡ d.span.size
parts_one d = parts_of_lem d.source d.span.size

-- units that are copied
pub copied_own : (p k : ℕ) (us : List Span) → own_size (copies_from p k us) ≡ 0
unfolding own_size sum copies_from
copied_own p k [] = refl
copied_own p k (u ∷ us) = let below = copied_own p (k + 1) us in omega arith

pub copied_all : (p k : ℕ) (us : List Span) → copied_size (copies_from p k us) ≡ total_size us
unfolding copied_size total_size sum copies_from
copied_all p k [] = refl
copied_all p k (u ∷ us) = let below = copied_all p (k + 1) us in omega arith

copied_spans : (p k : ℕ) (us : List Span) → spans (copies_from p k us) ≡ us
unfolding copies_from
copied_spans p k [] = refl
copied_spans p k (u ∷ us) = rw (copied_spans p (k + 1) us)

pub copies_length : (p k : ℕ) (us : List Span) → length (copies_from p k us) ≡ length us
unfolding copies_from
copies_length p k [] = refl
copies_length p k (u ∷ us) = ap suc (copies_length p (k + 1) us)

own_spans : (us : List Span) → spans (map (delivery Own) us) ≡ us
own_spans [] = refl
own_spans (u ∷ us) = rw (own_spans us)

module _ (r : Recording) (n : ℕ) where
  spans_at_lem : (p : ℕ) → spans (deliveries_at r n p) ≡ delivered_at r n p
  unfolding deliveries_at
  spans_at_lem p = by_bool (is_extractor (own r n) p)
      (λ e. rw e (copied_spans p 1 (delivered_at r n p)))
      (λ e. rw e (own_spans (delivered_at r n p)))

  spans_each : (ps : List ℕ) → spans (each (deliveries_at r n) ps) ≡ each (delivered_at r n) ps
  unfolding each
  spans_each [] = refl
  spans_each (p ∷ ps) = map_append (λ (d : Delivery). d.span) (deliveries_at r n p) (each (deliveries_at r n) ps) ∙ rw (spans_at_lem p, spans_each ps)

  pub deliveries_spans : spans (deliveries r n) ≡ delivered r n
  unfolding deliveries delivered
  deliveries_spans = spans_each (units (own r n))

  pub deliveries_unit : (p : ℕ) → is_aggregator (own r n) p ≡ false → is_extractor (own r n) p ≡ false → deliveries_at r n p ≡ delivery Own (span_of n (own r n) p) ∷ []
  unfolding deliveries_at
  deliveries_unit p a e = rw (e, delivered_unit_lem r n p a e)

  pub deliveries_aggregator : (p : ℕ) → is_aggregator (own r n) p ≡ true → deliveries_at r n p ≡ []
  unfolding deliveries_at
  deliveries_aggregator p a = rw (aggregator_only (own r n) p a, delivered_aggregator r n p a)

  pub deliveries_extractor : (p : ℕ) → is_extractor (own r n) p ≡ true → deliveries_at r n p ≡ copies_from p 1 (copied_at r n p)
  unfolding deliveries_at
  deliveries_extractor p e = rw (e, delivered_extractor r n p e)

  own_at_lem : (p : ℕ) → own_size (deliveries_at r n p) ≡ own_at r n p
  own_at_lem p = by_bool (is_aggregator (own r n) p)
      (λ a. rw (deliveries_aggregator p a, own_aggregator r n p a) own_none)
      (λ a. by_bool (is_extractor (own r n) p)
      (λ e. ap own_size (deliveries_extractor p e) ∙ copied_own p 1 (copied_at r n p) ∙ sym (own_extractor r n p e))
      (λ e. ap own_size (deliveries_unit p a e) ∙ rw (own_unit r n p a e) (unfold own_size sum in omega arith)))

  copied_at_lem : (p : ℕ) → copied_size (deliveries_at r n p) ≡ copied_size_at r n p
  copied_at_lem p = by_bool (is_aggregator (own r n) p)
      (λ a. rw (deliveries_aggregator p a, copied_other r n p (aggregator_only (own r n) p a)) copied_none)
      (λ a. by_bool (is_extractor (own r n) p)
      (λ e. ap copied_size (deliveries_extractor p e) ∙ copied_all p 1 (copied_at r n p) ∙ sym (copied_extractor r n p e))
      (λ e. ap copied_size (deliveries_unit p a e) ∙ rw (copied_other r n p e) (unfold copied_size sum in refl)))

  own_each : (ps : List ℕ) → own_size (each (deliveries_at r n) ps) ≡ sum (map (own_at r n) ps)
  unfolding each sum
  own_each [] = own_none
  own_each (p ∷ ps) = let a = own_append (deliveries_at r n p) (each (deliveries_at r n) ps) in let h = own_at_lem p in let below = own_each ps in omega arith

  copied_each : (ps : List ℕ) → copied_size (each (deliveries_at r n) ps) ≡ sum (map (copied_size_at r n) ps)
  unfolding each sum
  copied_each [] = copied_none
  copied_each (p ∷ ps) = let a = copied_append (deliveries_at r n p) (each (deliveries_at r n) ps) in let h = copied_at_lem p in let below = copied_each ps in omega arith

  pub deliveries_own : own_size (deliveries r n) ≡ own_bytes r n
  unfolding deliveries
  deliveries_own = own_each (units (own r n)) ∙ sym (own_sum r n)

  pub deliveries_copied : copied_size (deliveries r n) ≡ copied_bytes r n
  unfolding deliveries
  deliveries_copied = copied_each (units (own r n)) ∙ sym (copied_sum r n)
