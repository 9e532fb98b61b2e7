-- What a good sample delivers. Assumes nothing.
--
--   delivers              the units of a sample deliver what is delivered
--   delivers_only         and nothing else
--   plain_unit            a unit of a well-formed sample that is neither an aggregator nor an extractor, as it is delivered
--   delivered_plain       every delivered unit is such a unit
--   delivered_there       of a sample that there is
use Prim.Native.Nat.{ℕ, ◌+◌, ◌%◌, ◌≤◌, ◌<◌}
use mathlib.Core.Path.{◌≡◌, refl, ap, sym, ◌∙◌}
use mathlib.Core.List.Memᴰ
use mathlib.Core.List.{List, [], ◌∷◌, ◌++◌, Memᴰ}
use mathlib.Core.Bool.{true, false}
use native.Mathlib.Omega.{arith}
use native.Mathlib.Nat.{add-zero}
use borrow.Author.Tests.{eqb-false}
use Rattle.words.specs.Tests.{pick}
use Rattle.words.specs.Refusals.{ok}
use Rattle.words.specs.Lists.{each}
use Rattle.words.specs.Bytes.{byte_at}
use Rattle.words.proofs.Tests.{by_bool}
use Rattle.words.proofs.Lists.{each_from, keep_mem}
use Rattle.units.specs.Units.{L, size, type, aggregator_type, extractor_type, is_aggregator, is_extractor}
use Rattle.units.specs.Extractors.{data_offset, data_length}
use Rattle.units.specs.Aggregators.{units, extractors}
use Rattle.samples.specs.Check.{check}
use Rattle.samples.proofs.Laws.{unit_whole, unit_inside}
use Rattle.bundles.specs.Recordings.{Recording, sample_count, content_of}
use Rattle.links.proofs.Links.{in_track}
use Rattle.copies.specs.Copies.{copied}
use Rattle.copies.proofs.Copied.{copied_unit_lem}
use Rattle.resolution_rules.specs.Resolving.{sample_of, Span, span_of, own, named, linked, copied_at, delivered_at, delivered}
use Rattle.resolution_rules.specs.Calls.{span_bytes}
use Rattle.resolution_rules.specs.Rules.{Extracts, Good, Delivers, Plain}
use Rattle.words.proofs.Joined.{part_byte}
use Rattle.resolution_rules.proofs.Delivered.{extractor_only, delivered_unit_lem, delivered_aggregator, delivered_extractor}
use Rattle.resolution_rules.proofs.Good.{own_length}

module _ (r : Recording) (n : ℕ) where
  pub extractor_mem : (p : ℕ) → Memᴰ p (units (own r n)) → is_extractor (own r n) p ≡ true → Memᴰ p (extractors (own r n))
  unfolding extractors
  extractor_mem p m e = keep_mem (is_extractor (own r n)) (units (own r n)) m e

  over : (ps : List ℕ) → Delivers r n ps (each (delivered_at r n) ps)
  unfolding each
  over [] = Delivers.none
  over (p ∷ ps) =
      let below = over ps in
      by_bool (is_aggregator (own r n) p)
      (λ a. rw (delivered_aggregator r n p a) (Delivers.aggregator a below))
      (λ a. by_bool (is_extractor (own r n) p)
      (λ e. rw (delivered_extractor r n p e) (Delivers.extractor e below))
      (λ e. rw (delivered_unit_lem r n p a e) (Delivers.unit a e below)))

  pub delivers : Delivers r n (units (own r n)) (delivered r n)
  unfolding delivered
  delivers = over (units (own r n))

  -- the spans are determined by the places
  spans_at : ℕ → List Span
  spans_at p = pick (is_aggregator (own r n) p) [] (pick (is_extractor (own r n) p) (copied_at r n p) (span_of n (own r n) p ∷ []))

  determined : {ps : List ℕ} {us : List Span} → Delivers r n ps us → us ≡ each spans_at ps
  unfolding each spans_at
  determined Delivers.none = refl
  determined (Delivers.unit {p} a e d) = rw (a, e) (ap (λ l. span_of n (own r n) p ∷ l) (determined d))
  determined (Delivers.aggregator a d) = rw a (determined d)
  determined (Delivers.extractor {p} e d) = rw (extractor_only (own r n) p e, e) (ap (λ l. copied_at r n p ++ l) (determined d))

  pub delivers_only : {ps : List ℕ} {us vs : List Span} → Delivers r n ps us → Delivers r n ps vs → us ≡ vs
  delivers_only d e = determined d ∙ sym (determined e)

-- a unit as it is delivered
module _ (r : Recording) (m q : ℕ) where
  first_byte : 0 < size (sample_of r m) q → byte_at (span_bytes r (span_of m (sample_of r m) q)) 0 % 32 ≡ type (sample_of r m) q
  unfolding type sample_of
  first_byte h = rw (part_byte (content_of r m) (q + L (sample_of r m)) (size (sample_of r m) q) 0 h, add-zero (q + L (sample_of r m)))

  pub plain_unit : check (sample_of r m) ≡ ok tt → Memᴰ q (units (sample_of r m)) → is_aggregator (sample_of r m) q ≡ false → is_extractor (sample_of r m) q ≡ false → Plain r (span_of m (sample_of r m) q)
  plain_unit f k a e =
      let w = unit_whole (sample_of r m) f q k in
      let i = unit_inside (sample_of r m) f q k in
      let l = own_length r m in
      let t = first_byte w.some in
      record {
        place = q;
        unit = k;
        start = refl;
        size = refl;
        some = w.some;
        inside = omega arith;
        aggregator = a;
        extractor = e;
        type = ((λ z. eqb-false (type (sample_of r m) q) aggregator_type a (sym t ∙ z)), (λ z. eqb-false (type (sample_of r m) q) extractor_type e (sym t ∙ z)));
      }

module _ (r : Recording) (n : ℕ) (g : Good r n) where
  -- a delivered unit is a unit of the sample, or of one that an extractor names
  source : {G : Type 0} (u : Span) → Memᴰ u (delivered r n) →
      ((p : ℕ) → Memᴰ p (units (own r n)) → is_aggregator (own r n) p ≡ false → is_extractor (own r n) p ≡ false → u ≡ span_of n (own r n) p → G) →
      ((p q : ℕ) → Extracts r n p → Memᴰ q (copied (linked r n p) (data_offset (own r n) p) (data_length (own r n) p)) → u ≡ span_of (named r n p) (linked r n p) q → G) → G
  unfolding delivered copied_at
  source u m f h =
      let w = each_from (delivered_at r n) (units (own r n)) m in
      let p = w.0 in
      by_bool (is_aggregator (own r n) p)
      (λ a. absurd (Memᴰ.not-nil (rw (delivered_aggregator r n p a) at w.2)))
      (λ a. by_bool (is_extractor (own r n) p)
      (λ e.
      let x = g.extracts p (extractor_mem r n p w.1 e) in
      let k = Memᴰ.of_map (span_of (named r n p) (linked r n p)) (copied (linked r n p) (data_offset (own r n) p) (data_length (own r n) p)) (rw (delivered_extractor r n p e) at w.2) in
      h p k.0 x k.1 (sym k.2))
      (λ e. f p w.1 a e (Memᴰ.eq_of_singleton (rw (delivered_unit_lem r n p a e) at w.2))))

  pub delivered_plain : (u : Span) → Memᴰ u (delivered r n) → Plain r u
  delivered_plain u m = source u m
      (λ p k a e z. rw z (plain_unit r n p g.formed k a e))
      (λ p q x k z.
      let c = copied_unit_lem (linked r n p) (data_offset (own r n) p) (data_length (own r n) p) q k in
      rw z (plain_unit r (named r n p) q x.copy.formed c.0 c.1 (x.copy.no_extractor q k)))

  pub delivered_there : 0 < n → n ≤ sample_count r.layout → (u : Span) → Memᴰ u (delivered r n) → (0 < u.sample) × (u.sample ≤ sample_count r.layout)
  delivered_there h l u m = source u m
      (λ p k a e z. rw z (h, l))
      (λ p q x k z. let t = in_track r.layout n _ _ x.there in rw z (t.0, t.1))
