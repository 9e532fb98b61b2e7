-- Units that stand one after another: the top-level units of a sample, or those that one aggregator includes. Assumes nothing.
--
--   places_later                  the places from a later unit on are among them
--   places_next                   the next place is their end, or one of them
--   holder_one, in_holder         a place lies in one top-level unit; an included unit in its aggregator
--   top_apart, aggregator_one     an included unit is no top-level one, and one aggregator includes it
--   includes_one                  a test of the one aggregator that includes a unit
use Prim.Native.Nat.{ℕ, zero, suc, ◌-◌, ◌≤◌, ◌<◌}
use mathlib.Core.Path.{◌≡◌, refl, sym, ◌∙◌}
use mathlib.Core.List.Memᴰ
use mathlib.Core.List.{Memᴰ}
use mathlib.Core.Logic.{◌⊎◌, inl, inr, ⊎_elim}
use mathlib.Core.Bool.{Bool, true, ◌&&◌}
use native.Mathlib.Omega.{arith}
use borrow.Author.Tests.{leb-true, leb-false, eqb-true, eqb-false}
use lib.Dec.{leb}
use Rattle.words.specs.Tests.{◌≡?◌}
use Rattle.words.specs.Lists.{some, has}
use Rattle.words.proofs.Tests.{by_bool}
use Rattle.words.proofs.Lists.{some_none, some_mem, has_from, has_mem}
use Rattle.words.proofs.Kept.{rising_apart}
use Rattle.numbers.proofs.Laws.{L_some}
use Rattle.units.specs.Units.{Sample, next, is_aggregator, places, top_units}
use Rattle.units.specs.Aggregators.{included_start, included}
use Rattle.units.proofs.Units.{next_after}
use Rattle.units.proofs.Walks.{places_end, places_step, in_places, top_rise, Before}
use Rattle.copies.specs.Copies.{includes}

module _ (x : Sample) where
  later : (k p e a q : ℕ) → e - p ≤ k → Memᴰ a (places x p e) → Memᴰ q (places x a e) → Memᴰ q (places x p e)
  later zero p e a q h m j = absurd (Memᴰ.not-nil (rw (places_end x p e (omega arith)) at m))
  later (suc k) p e a q h m j = by_bool (leb e p)
      (λ u. absurd (Memᴰ.not-nil (rw (places_end x p e (leb-true _ _ u)) at m)))
      (λ u. let i = leb-false e p u in let n = next_after x p in ⊎_elim
      (λ r. rw (← r) j)
      (λ r. rw (places_step x p e i) (Memᴰ.tail (later k (next x p) e a q (omega arith) r j)))
      (Memᴰ.cases_cons (rw (places_step x p e i) at m)))

  pub places_later : (p e a q : ℕ) → Memᴰ a (places x p e) → Memᴰ q (places x a e) → Memᴰ q (places x p e)
  places_later p e a q m j = later (e - p) p e a q (omega arith) m j

  pub places_next : (a e q : ℕ) → Memᴰ q (places x a e) → next x q ≤ e → (next x q ≡ e) ⊎ Memᴰ (next x q) (places x a e)
  places_next a e q m h = by_bool (next x q ≡? e)
      (λ t. inl (eqb-true _ _ t))
      (λ t. let n = eqb-false (next x q) e t in
      let i = in_places x a e q m in
      inr (places_later a e q (next x q) m (rw (places_step x q e i.1, places_step x (next x q) e (omega arith)) (Memᴰ.tail (Memᴰ.head refl)))))

  -- top-level units do not overlap
  pub holder_one : (p r t : ℕ) → Memᴰ p (top_units x) → Memᴰ r (top_units x) → p ≤ t → t < next x p → r ≤ t → t < next x r → p ≡ r
  holder_one p r t m k a b c d = ⊎_elim
      (λ e. e)
      (λ s. absurd (⊎_elim (λ u. absurd (omega arith)) (λ u. absurd (omega arith)) s))
      (rising_apart (Before x) (top_units x) (top_rise x) p r m k)

  pub in_holder : (p q : ℕ) → Memᴰ q (included x p) → (p < q) × (q < next x p)
  in_holder p q m = let i = in_places x (included_start x p) (next x p) q m in let l = L_some x.length_size in (omega arith, i.1)

  pub top_apart : (p q : ℕ) → Memᴰ p (top_units x) → Memᴰ q (included x p) → Memᴰ q (top_units x) → ⊥
  top_apart p q m k t =
      let i = in_holder p q k in
      let n = next_after x q in
      let e = holder_one p q q m t (omega arith) i.1 (omega arith) n in
      absurd (omega arith)

  pub aggregator_one : (p r q : ℕ) → Memᴰ p (top_units x) → Memᴰ r (top_units x) → Memᴰ q (included x p) → Memᴰ q (included x r) → p ≡ r
  aggregator_one p r q m k a b =
      let i = in_holder p q a in
      let j = in_holder r q b in
      holder_one p r q m k (omega arith) i.1 (omega arith) j.1

  -- a test of the aggregator that includes q, whichever it is
  pub includes_one : (t : ℕ → Bool) (p q : ℕ) → Memᴰ p (top_units x) → is_aggregator x p ≡ true → Memᴰ q (included x p) → some (λ r. includes x r q && t r) (top_units x) ≡ t p
  includes_one t p q m a k = by_bool (t p)
      (λ u. some_mem (λ r. includes x r q && t r) (top_units x) m (rw (a, has_mem q (included x p) k, u)) ∙ sym u)
      (λ u. some_none (λ r. includes x r q && t r) (top_units x) (λ r j. by_bool (is_aggregator x r)
      (λ b. by_bool (has q (included x r))
      (λ c. let e = aggregator_one p r q m j k (has_from q (included x r) c) in rw (b, c, ← e, u))
      (λ c. rw (b, c)))
      (λ b. rw b)) ∙ sym u)
