-- Where a delivered unit comes from: an own one stands in the sample, and a copied one is what `extracted` gives for its extractor and its
-- number. Assumes nothing.
--
--   own_there         an own unit stands in the sample
--   copy_extracted    a copied unit, as a part of the linked sample
use Prim.Native.Nat.{ℕ, ◌+◌, ◌-◌, ◌≤◌, ◌<◌}
use mathlib.Core.Path.{◌≡◌, refl, ap, ◌∙◌}
use mathlib.Core.List.Memᴰ
use mathlib.Core.List.{List, [], ◌∷◌, Memᴰ}
use mathlib.Core.Logic.{⊎_elim}
use mathlib.Core.Bool.{true}
use native.Mathlib.Omega.{arith}
use lib.ListN.{length, length-map}
use Rattle.words.specs.Refusals.{ok}
use Rattle.words.specs.Lists.{nth}
use Rattle.words.proofs.Tests.{by_bool}
use Rattle.words.proofs.Lists.{each_from, keep_mem}
use Rattle.words.proofs.Joined.{nth_map}
use Rattle.words.proofs.Numbered.{nth_first, nth_later}
use Rattle.numbers.specs.declared.ByteOffset.{ByteOffset}
use Rattle.units.specs.Units.{is_aggregator, is_extractor}
use Rattle.units.specs.Extractors.{data_offset, data_length}
use Rattle.units.specs.Aggregators.{units, extractors}
use Rattle.units.specs.Steps.{place}
use Rattle.bundles.specs.Recordings.{Recording}
use Rattle.copies.specs.Copies.{copied}
use Rattle.copies.specs.Extracted.{extracted}
use Rattle.resolution_rules.specs.Resolving.{Span, sample_of, span_of, own, named, linked, copied_at, judged}
use Rattle.resolution_rules.specs.Calls.{span_bytes, no_span}
use Rattle.resolution_rules.proofs.Promises.{extracted_gives}
use Rattle.delivery.specs.Deliveries.{Delivery, delivery, copies_from, deliveries_at, deliveries}
use Rattle.delivery.specs.declared.Source.TheVariants.{Own, Copy}
use Rattle.delivery.proofs.Deliveries.{deliveries_unit, deliveries_aggregator, deliveries_extractor}

-- a unit among those of a copy, numbered from k on
record Numbered (p k : ℕ) (us : List Span) (d : Delivery) : Type 0 where
  at : ℕ
  some : 0 < at
  most : at ≤ length us
  same : d ≡ delivery (Copy (place p) (k + at)) (nth us at no_span)

numbered : (p k : ℕ) (us : List Span) {d : Delivery} → Memᴰ d (copies_from p (k + 1) us) → Numbered p k us d
unfolding copies_from
numbered p k [] m = absurd (Memᴰ.not-nil m)
numbered p k (u ∷ us) {d} m = ⊎_elim
    (λ e. record { at = 1; some = omega arith; most = omega arith; same = e ∙ rw (nth_first u us 1 no_span (omega arith) refl) })
    (λ j.
    let below = numbered p (k + 1) us j in
    let i = below.at in
    let h = below.some in
    let l = below.most in
    let a : k + 1 + i ≡ k + (i + 1) = omega arith in
    let b : i + 1 - 1 ≡ i = omega arith in
    record { at = i + 1; some = omega arith; most = omega arith; same = below.same ∙ rw (a, nth_later u us (i + 1) no_span (λ z. omega arith), b) })
    (Memᴰ.cases_cons m)

-- the units of a copy stand in the sample that the extractor names
copied_there : (r : Recording) (n p k : ℕ) → 0 < k → k ≤ length (copied_at r n p) → (nth (copied_at r n p) k no_span).sample ≡ named r n p
unfolding copied_at
copied_there r n p k h l =
    let z = linked r n p in
    let c = copied z (data_offset (own r n) p) (data_length (own r n) p) in
    let j : k ≤ length c = rw (length-map c (span_of (named r n p) z)) at l in
    ap (λ (u : Span). u.sample) (nth_map (span_of (named r n p) z) c k 0 no_span h j)

module _ (r : Recording) (n : ℕ) (d : Delivery) (m : Memᴰ d (deliveries r n)) where
  -- the unit that it is delivered for
  from : (p : ℕ) × Memᴰ p (units (own r n)) × Memᴰ d (deliveries_at r n p)
  unfolding deliveries
  from = each_from (deliveries_at r n) (units (own r n)) m

  by_source : {G : Type 0} →
      (d.source ≡ Own → d.span.sample ≡ n → G) →
      ((p : ℕ) → Memᴰ p (units (own r n)) → is_extractor (own r n) p ≡ true → Numbered p 0 (copied_at r n p) d → G) → G
  by_source f g =
      let w = from in
      let p = w.0 in
      by_bool (is_extractor (own r n) p)
      (λ e. g p w.1 e (numbered p 0 (copied_at r n p) (rw (deliveries_extractor r n p e) at w.2)))
      (λ e. by_bool (is_aggregator (own r n) p)
      (λ a. absurd (Memᴰ.not-nil (rw (deliveries_aggregator r n p a) at w.2)))
      (λ a. let q = Memᴰ.eq_of_singleton (rw (deliveries_unit r n p a e) at w.2) in f (ap (λ (u : Delivery). u.source) q) (ap (λ (u : Delivery). u.span.sample) q)))

  pub own_there : d.source ≡ Own → d.span.sample ≡ n
  own_there s = by_source
      (λ o h. h)
      (λ p k e c. let q = ap (λ (u : Delivery). u.source) c.same in let z : ◌≡◌ {A = ℕ} 0 1 = cc in absurd (omega arith))

  pub copy_extracted : judged r n ≡ ok tt → {p : ByteOffset} {k : ℕ} → d.source ≡ Copy p k → extracted (own r n) p.0 (sample_of r d.span.sample) k ≡ span_bytes r d.span
  unfolding extractors
  copy_extracted good {p} {k} s = by_source
      (λ o h. let z : ◌≡◌ {A = ℕ} 0 1 = cc in absurd (omega arith))
      (λ q u e c.
      let i = c.at in
      let o = ap (λ (u : Delivery). u.source) c.same in
      let at : p ≡ place q = cc in
      let number : k ≡ 0 + i = cc in
      let same : 0 + i ≡ i = omega arith in
      let span = ap (λ (u : Delivery). u.span) c.same in
      rw (at, number, same, span)
      (ap (λ (l : ℕ). extracted (own r n) q (sample_of r l) i) (copied_there r n q i c.some c.most)
      ∙ extracted_gives r n good q i (keep_mem (is_extractor (own r n)) (units (own r n)) u e) c.some c.most))
