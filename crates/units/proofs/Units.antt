-- Laws of one unit. Assumes nothing.
--
--   next_after, type_past               the next unit starts later; past the end the type reads as 0
--   whole, whole_none                   a unit without 14 to 18 is whole, both ways
--   whole_wider                         a unit that is whole in an aggregator is whole in the sample
--   whole_aggregator, whole_end         the additional_bytes of a whole aggregator lie in it; a whole unit ends within what it stands in
--   extractor_size_lem, extractor_none  an extractor without 22, both ways
--   included_rules, included_none       an included unit without a fault, both ways
use Prim.Native.Nat.{ℕ, ◌+◌, ◌≤◌, ◌<◌}
use mathlib.Core.Path.{◌≡◌}
use mathlib.Core.Bool.{true, false, ◌&&◌}
use native.Mathlib.Omega.{arith}
use native.Mathlib.Nat.{pos_of_ne-zero}
use borrow.Author.Tests.{lt-leb, leb-false, le-ltb, ltb-false, eq-eqb, ne_eqb, eqb-true, eqb-false}
use lib.ListN.{get_or-eq_default}
use Rattle.words.specs.Tests.{◌<?◌, ◌≤?◌, ◌≡?◌}
use Rattle.words.specs.Refusals.{◌if◌}
use Rattle.words.specs.RefusalNumbers.{length_field_cut, unit_too_long, empty_unit, top_bit_set, nested_aggregator, slice_in_avc_aggregator, bad_extractor_size}
use Rattle.words.proofs.Tests.{by_bool}
use Rattle.words.proofs.Refusals.{if_none, or_else_none}
use Rattle.numbers.specs.Kinds.{is_avc}
use Rattle.numbers.specs.Sizes.{extractor_size}
use Rattle.numbers.proofs.Laws.{L_some}
use Rattle.units.specs.Units.{Sample, L, end, size, first_byte, type, next, is_aggregator, is_extractor, least_size, unit_fault}
use Rattle.units.specs.Extractors.{extractor_fault}
use Rattle.units.specs.Rules.{Whole, Included}
use Rattle.units.specs.Aggregators.{included_start, is_slice, included_fault}

module _ (x : Sample) where
  pub next_after : (p : ℕ) → p < next x p
  next_after p = let l = L_some x.length_size in omega arith

  pub type_past : (p : ℕ) → end x ≤ p + L x → type x p ≡ 0
  unfolding type
  type_past p h = rw (get_or-eq_default x.content 0 {n = p + L x} h)

  pub whole : (e p : ℕ) → unit_fault x e p ≡ 0 → Whole x e p
  unfolding unit_fault
  whole e p h =
      let a = or_else_none (length_field_cut if e <? p + L x) _ h in
      let b = or_else_none (unit_too_long if e <? next x p) _ a.1 in
      let c = or_else_none (empty_unit if size x p ≡? 0) _ b.1 in
      let d = or_else_none (top_bit_set if 128 ≤? first_byte x p) _ c.1 in
      record {
        room = ltb-false _ _ (if_none 13 _ a.0);
        inside = ltb-false _ _ (if_none 14 _ b.0);
        some = pos_of_ne-zero (eqb-false _ _ (if_none 15 _ c.0));
        top = leb-false _ _ (if_none 16 _ d.0);
        least = ltb-false _ _ (if_none 17 _ d.1);
      }

  pub whole_none : (e p : ℕ) → Whole x e p → unit_fault x e p ≡ 0
  unfolding unit_fault
  whole_none e p w = rw (
    le-ltb e (p + L x) w.room,
    le-ltb e (next x p) w.inside,
    ne_eqb (size x p) 0 (λ z. let h = w.some in omega arith),
    lt-leb 128 (first_byte x p) w.top,
    le-ltb (size x p) (least_size x (type x p)) w.least,
  )

  pub whole_end : (e p : ℕ) → Whole x e p → (p < e) × (next x p ≤ e)
  whole_end e p w = let l = L_some x.length_size in (omega (arith, w.room), w.inside)

  pub whole_wider : (e g p : ℕ) → e ≤ g → Whole x e p → Whole x g p
  whole_wider e g p h w = record {
    room = omega (arith, w.room);
    inside = omega (arith, w.inside);
    some = w.some;
    top = w.top;
    least = w.least;
  }

  pub whole_aggregator : (e p : ℕ) → Whole x e p → is_aggregator x p ≡ true → included_start x p ≤ next x p
  whole_aggregator e p w t = let g = rw t at w.least in omega arith

  -- 22
  pub extractor_size_lem : (p : ℕ) → extractor_fault x p ≡ 0 → is_extractor x p ≡ true → size x p ≡ extractor_size x.length_size
  extractor_size_lem p h t = by_bool (size x p ≡? extractor_size x.length_size)
      (λ e. eqb-true _ _ e)
      (λ e. let z : ◌≡◌ {A = ℕ} bad_extractor_size 0 = rw (t, e) at h in absurd (omega arith))

  pub extractor_none : (p : ℕ) → (is_extractor x p ≡ true → size x p ≡ extractor_size x.length_size) → extractor_fault x p ≡ 0
  extractor_none p h = by_bool (is_extractor x p)
      (λ t. rw (t, eq-eqb (size x p) (extractor_size x.length_size) (h t)))
      (λ t. rw t)

  -- an included unit, in an aggregator that ends at e
  pub included_rules : (e p : ℕ) → included_fault x e p ≡ 0 → Included x e p
  unfolding included_fault
  included_rules e p h =
      let a = or_else_none (unit_fault x e p) _ h in
      let b = or_else_none (nested_aggregator if is_aggregator x p) _ a.1 in
      let c = or_else_none (slice_in_avc_aggregator if is_avc x.kind && is_slice (type x p)) _ b.1 in
      record {
        unit = whole e p a.0;
        flat = if_none 18 _ b.0;
        slice = λ t. let b : (is_avc x.kind && is_slice (type x p)) ≡ false = if_none 19 _ c.0 in rw t at b;
        extractor = extractor_size_lem p c.1;
      }

  pub included_none : (e p : ℕ) → Included x e p → included_fault x e p ≡ 0
  unfolding included_fault
  included_none e p i = rw (whole_none e p i.unit, i.flat)
      (by_bool (is_avc x.kind)
      (λ t. rw (t, i.slice t) (extractor_none p i.extractor))
      (λ t. rw t (extractor_none p i.extractor)))
