-- The state one unit on, as the code finds it: n bytes in a length field, the size v and the type t of the unit. Assumes nothing.
--
--   size_small                             a length field holds less than 2 to the 32nd
--   step_in, step_extractor, step_plain    an aggregator, an extractor, another unit
--   step_passed                            an extractor or another unit, by a number
--   next_read, cover_read                  where a unit ends, and what an aggregator covers
--   front_is                               the state whose numbers are all 0
--   fits_front, fits_step, fits_reach      the numbers of a state do not get too large
use Prim.Native.Nat.{ℕ, zero, suc, ◌+◌, ◌-◌, ◌^◌, ◌≤◌}
use mathlib.Core.Path.{◌≡◌, sym, ◌∙◌}
use mathlib.Core.List.{List}
use native.Mathlib.Nat.{add-zero}
use native.Mathlib.Omega.{arith}
use borrow.Author.Tests.{eq-eqb, ne_eqb, eqb-true, eqb-false, leb-true, leb-false}
use lib.Dec.{leb}
use Rattle.words.specs.Bytes.{big}
use Rattle.words.specs.Tests.{◌≡?◌}
use Rattle.words.proofs.Tests.{by_bool}
use Rattle.numbers.specs.Sizes.{in_bytes}
use Rattle.numbers.specs.declared.LengthSize.{LengthSize}
use Rattle.numbers.specs.declared.LengthSize.TheVariants.{One, Two, Four}
use Rattle.numbers.proofs.Laws.{L_some}
use Rattle.units.specs.Units.{Sample, sample, size, type, next, is_aggregator, is_extractor}
use Rattle.units.specs.Aggregators.{cover_end}
use Rattle.units.specs.declared.Track.{Track}
use Rattle.mark_rules.specs.declared.WalkState.{WalkState}
use Rattle.mark_rules.specs.States.{front, state_step, reach}
use Rattle.mark_rules.proofs.States.{step_aggregator, step_other, step_after, reach_here, reach_step}
use Rattle.marks.specs.Fits.{Fits}

module _ (k : Track) (z : List ℕ) (s : WalkState) {n v t : ℕ} (e : n ≡ in_bytes k.length_size) (f : v ≡ big z s.place (in_bytes k.length_size)) (g : t ≡ type (sample k z) s.place) where
  abbrev x : Sample
  x = sample k z

  pub step_in : t ≡ 30 → record { place = s.place + n + 4 + n; until = s.place + n + v; count = s.count; bytes = s.bytes; extractors = s.extractors } ≡ state_step x s
  unfolding size
  step_in h = rw (step_aggregator x s (eq-eqb _ 30 (sym g ∙ h)), e, f)

  pub step_extractor : (t ≡ 30 → ⊥) → t ≡ 31 → record { place = s.place + n + v; until = s.until; count = s.count + 1; bytes = s.bytes + v; extractors = s.extractors + 1 } ≡ state_step x s
  unfolding size
  step_extractor h i = rw (step_other x s (ne_eqb _ 30 (λ j. h (g ∙ j))), eq-eqb _ 31 (sym g ∙ i), e, f)

  pub step_plain : (t ≡ 30 → ⊥) → (t ≡ 31 → ⊥) → record { place = s.place + n + v; until = s.until; count = s.count + 1; bytes = s.bytes + v; extractors = s.extractors } ≡ state_step x s
  unfolding size
  step_plain h i = rw (step_other x s (ne_eqb _ 30 (λ j. h (g ∙ j))), ne_eqb _ 31 (λ j. i (g ∙ j)), e, f)

  -- with m as the number of extractors that the unit is
  pub step_passed : {m : ℕ} → (t ≡ 30 → ⊥) → (t ≡ 31 → m ≡ 1) → ((t ≡ 31 → ⊥) → m ≡ 0) →
      record { place = s.place + n + v; until = s.until; count = s.count + 1; bytes = s.bytes + v; extractors = s.extractors + m } ≡ state_step x s
  step_passed h one none = by_bool (t ≡? 31)
      (λ q. let r = eqb-true t 31 q in rw (one r) (step_extractor h r))
      (λ q. let r = eqb-false t 31 q in rw (none r, add-zero s.extractors) (step_plain h r))

-- where a unit ends, and what an aggregator covers, as the code reads it
module _ (k : Track) (z : List ℕ) (p : ℕ) {n v : ℕ} (e : n ≡ in_bytes k.length_size) (f : v ≡ big z p (in_bytes k.length_size)) where
  pub next_read : p + n + v ≡ next (sample k z) p
  unfolding size
  next_read = rw (e, f)

  pub cover_read : {w : ℕ} → w ≡ big z (p + n + 4) (in_bytes k.length_size) → p + n + v + w ≡ cover_end (sample k z) p
  cover_read g = rw (next_read, g, e)

pub size_small : (l : LengthSize) → 256 ^ in_bytes l ≤ 4294967296
size_small One = omega arith
size_small Two = omega arith
size_small Four = omega arith

pub front_is : {s : WalkState} → (s.place ≡ 0) × ((s.until ≡ 0) × ((s.count ≡ 0) × ((s.bytes ≡ 0) × (s.extractors ≡ 0)))) → s ≡ front
front_is {s} e = fields e.0 e.1.0 e.1.1.0 e.1.1.1.0 e.1.1.1.1
  where
    fields : {a b c d f : ℕ} → a ≡ 0 → b ≡ 0 → c ≡ 0 → d ≡ 0 → f ≡ 0 → record { place = a; until = b; count = c; bytes = d; extractors = f } ≡ front
    fields g h i j k = rw (g, h, i, j, k)

pub fits_front : Fits front
fits_front = record { count = omega arith; bytes = omega arith; extractors = omega arith }

module _ (x : Sample) where
  pub fits_step : (s : WalkState) → Fits s → Fits (state_step x s)
  fits_step s c = let l = L_some x.length_size in by_bool (is_aggregator x s.place)
      (λ t. rw (step_aggregator x s t) (record { count = omega (arith, c.count); bytes = omega (arith, c.bytes); extractors = omega (arith, c.extractors) }))
      (λ t. rw (step_other x s t) (record {
        count = omega (arith, c.count);
        bytes = omega (arith, c.bytes);
        extractors = by_bool (is_extractor x s.place) (λ g. rw g (omega (arith, c.extractors))) (λ g. rw g (omega (arith, c.extractors)));
      }))

  fits_by : (k d : ℕ) (s : WalkState) → d - s.place ≤ k → Fits s → Fits (reach x d s)
  fits_by zero d s f c = rw (reach_here x d s (omega arith)) c
  fits_by (suc k) d s f c = by_bool (leb d s.place)
      (λ q. rw (reach_here x d s (leb-true d s.place q)) c)
      (λ q. let l = leb-false d s.place q in let a = step_after x s in
      rw (reach_step x d s l) (fits_by k d (state_step x s) (omega arith) (fits_step s c)))

  pub fits_reach : (d : ℕ) (s : WalkState) → Fits s → Fits (reach x d s)
  fits_reach d s c = fits_by d d s (omega arith) c
