-- The new sample is well formed. The idea: it is made of pieces; an aggregator that keeps its additional_bytes covers units that are all kept
-- as they were, so the same bytes end where a piece ends. Assumes nothing.
--
--   kept_reaches     what an aggregator covers, where no unit of it is dropped
--   kept_formed      the units that are kept are pieces of which a well-formed sample is made
--   new_formed       the new sample is well formed
use Prim.Native.Nat.{ℕ, zero, suc, ◌-◌, ◌≤◌, ◌<◌}
use mathlib.Core.Path.{◌≡◌}
use mathlib.Core.List.{Memᴰ}
use mathlib.Core.Logic.{inr}
use mathlib.Core.Bool.{Bool, true, false, not}
use native.Mathlib.Omega.{arith}
use borrow.Author.Tests.{leb-true, leb-false, le-leb, lt-ltb, ltb-true, ltb-false}
use lib.Dec.{leb, ltb}
use lib.ListN.{length}
use Rattle.words.specs.Refusals.{ok}
use Rattle.words.specs.Lists.{keep}
use Rattle.words.proofs.Tests.{by_bool, true_false}
use Rattle.words.proofs.Lists.{keep_mem}
use Rattle.words.proofs.Kept.{keep_yes, keep_no, some_false}
use Rattle.units.specs.Units.{Sample, end, next, is_aggregator, places, top_units, border, top_between}
use Rattle.units.specs.Aggregators.{additional_bytes, cover_end}
use Rattle.units.specs.Rules.{TopUnitsWhole, Clear}
use Rattle.units.proofs.Units.{next_after, whole_end, whole_aggregator}
use Rattle.units.proofs.Walks.{places_end, places_step, Reached, reached_start, reached_next, reached_mem, border_past, border_inside}
use Rattle.units.proofs.Covers.{cover_border, cover_clear}
use Rattle.samples.specs.Check.{check}
use Rattle.samples.proofs.Laws.{rules_check}
use Rattle.salvage_rules.specs.Salvage.{holding, is_dropped, loses_cover, unit_bytes, zeroed_bytes, new_content}
use Rattle.salvage_rules.proofs.Placed.{additional_here}
use Rattle.salvage_rules.proofs.Pieces.{Piece, Reaches, Formed, reaches_none, formed_same, formed_rules}
use Rattle.salvage_rules.proofs.Units.{kept_bytes, kept_units, content_kept, inside_ok, cover_kept, cover_other, new_plain, new_zeroed, unit_there, unit_length, unit_type, unit_piece, zeroed_piece, zeroed_none}

module _ (y : Sample) (ws : TopUnitsWhole y) where
  abbrev is_kept : ℕ → Bool
  is_kept p = not (is_dropped y p)

  -- no unit from a up to b is dropped
  abbrev Spared : ℕ → ℕ → Type 0
  Spared a b = (p : ℕ) → Memᴰ p (top_units y) → a ≤ p → p < b → is_dropped y p ≡ false

  border_most : (c : ℕ) → border y c ≡ true → c ≤ end y
  border_most c b = by_bool (ltb (end y) c) (λ u. true_false _ b (border_past y c (ltb-true _ _ u))) (λ u. ltb-false (end y) c u)

  kept_reaches : (k q c : ℕ) → end y - q ≤ k → Reached y q → q ≤ c → border y c ≡ true → Clear y q c → Spared q c → Reaches y (kept_bytes y) (c - q) (keep is_kept (places y q (end y)))
  kept_reaches zero q c g r l b d s = let h = border_most c b in reaches_none y (kept_bytes y) (c - q) (keep is_kept (places y q (end y))) (omega arith)
  kept_reaches (suc k) q c g r l b d s = by_bool (leb c q)
      (λ t. let h = leb-true c q t in reaches_none y (kept_bytes y) (c - q) (keep is_kept (places y q (end y))) (omega arith))
      (λ t. let h = leb-false c q t in
      let i : q < end y = omega (arith, border_most c b) in
      let m = reached_mem y q r i in
      let n = next_after y q in
      let e = (whole_end y (end y) q (ws q m)).1 in
      let o : next y q ≤ c = by_bool (ltb c (next y q)) (λ u. true_false _ b (border_inside y q c r i e h (ltb-true _ _ u))) (λ u. ltb-false c (next y q) u) in
      let flat = d q m (omega arith) h in
      let same : kept_bytes y q ≡ unit_bytes y q = new_plain y q (cover_other y q flat) in
      let len = unit_length y q (ws q m) in
      let sum : c - q - length (unit_bytes y q) ≡ c - next y q = omega arith in
      let rest = kept_reaches k (next y q) c (omega arith) (reached_next y q i r) o b (λ u j f. d u j (omega arith)) (λ u j f. s u j (omega arith)) in
      rw (places_step y q (end y) i, keep_yes is_kept q (places y (next y q) (end y)) (rw (s q m (omega arith) h)))
      (inr (rw (same, ← unit_type y q (ws q m)) flat, rw same (omega arith), rw (same, sum) rest)))

  -- the unit at p, if it is kept
  kept_piece : (p : ℕ) → Memᴰ p (top_units y) → is_dropped y p ≡ false → Piece y (kept_bytes y p)
  kept_piece p m h = by_bool (loses_cover y p)
      (λ t. rw (new_zeroed y p t) (zeroed_piece y p (ws p m) (inside_ok y p h) (by_bool (is_aggregator y p) (λ a. a) (λ a. true_false _ t (cover_other y p a)))))
      (λ t. rw (new_plain y p t) (unit_piece y p (ws p m) (inside_ok y p h)))

  kept_covers : (p : ℕ) → (m : Memᴰ p (top_units y)) → Reached y p → is_dropped y p ≡ false → is_aggregator (holding y (kept_bytes y p)) 0 ≡ true →
      Reaches y (kept_bytes y) (additional_bytes (holding y (kept_bytes y p)) 0) (keep is_kept (places y (next y p) (end y)))
  kept_covers p m r h a = by_bool (loses_cover y p)
      (λ t. rw (new_zeroed y p t) (reaches_none y (kept_bytes y) (additional_bytes (holding y (zeroed_bytes y p)) 0) (keep is_kept (places y (next y p) (end y))) (zeroed_none y p (ws p m) (inside_ok y p h) (by_bool (is_aggregator y p) (λ b. b) (λ b. true_false _ t (cover_other y p b))))))
      (λ t.
      let w = ws p m in
      let same : kept_bytes y p ≡ unit_bytes y p = new_plain y p t in
      let b : is_aggregator y p ≡ true = rw (unit_type y p w) (rw same at a) in
      let c = cover_kept y p t b in
      let i = whole_end y (end y) p w in
      let len = unit_length y p w in
      let more : additional_bytes y p ≡ additional_bytes (holding y (unit_bytes y p)) 0 = additional_here y p (unit_bytes y p) _ (unit_there y p) (let g = whole_aggregator y (end y) p w b in omega arith) in
      let sum : cover_end y p - next y p ≡ additional_bytes (holding y (unit_bytes y p)) 0 = omega arith in
      rw (same, ← sum) (kept_reaches (end y) (next y p) (cover_end y p) (omega arith) (reached_next y p i.0 r) (omega arith) (cover_border y p c.0) (cover_clear y p c.0)
      (λ u j f l. some_false (is_dropped y) (top_between y (next y p) (cover_end y p)) c.1 u (between u j f l))))
    where
      between : (u : ℕ) → Memᴰ u (top_units y) → next y p ≤ u → u < cover_end y p → Memᴰ u (top_between y (next y p) (cover_end y p))
      between u j f l = unfold top_between in keep_mem _ (top_units y) j (rw (le-leb _ _ f, lt-ltb _ _ l))

  kept_formed : (k p : ℕ) → end y - p ≤ k → Reached y p → Formed y (kept_bytes y) (keep is_kept (places y p (end y)))
  kept_formed zero p g r = rw (places_end y p (end y) (omega arith)) (unfold keep in tt)
  kept_formed (suc k) p g r = by_bool (leb (end y) p)
      (λ t. rw (places_end y p (end y) (leb-true _ _ t)) (unfold keep in tt))
      (λ t. let h = leb-false (end y) p t in
      let n = next_after y p in
      let m = reached_mem y p r h in
      let rest = kept_formed k (next y p) (omega arith) (reached_next y p h r) in
      rw (places_step y p (end y) h) (by_bool (is_dropped y p)
      (λ d. rw (keep_no is_kept p (places y (next y p) (end y)) (rw d)) rest)
      (λ d. rw (keep_yes is_kept p (places y (next y p) (end y)) (rw d)) (kept_piece p m d, kept_covers p m r d, rest))))

  abbrev fresh : Sample
  fresh = holding y (new_content y)

  pub new_formed : check fresh ≡ ok tt
  unfolding kept_units top_units
  new_formed = rules_check fresh (formed_rules fresh (kept_bytes y) (kept_units y) (formed_same y (new_content y) (kept_bytes y) (kept_units y) (kept_formed (end y) 0 (omega arith) (reached_start y))) (content_kept y))
