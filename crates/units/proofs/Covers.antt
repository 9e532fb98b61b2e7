-- 21 by a walk over what an aggregator covers, from its end on. Assumes nothing.
--
--   clear_next                                                    no aggregator among the top-level units from a up to q
--   cover_bad, cover_aggregator, cover_good                       21, by what a walk from the aggregator's end finds
--   cover_border, cover_clear                                     an aggregator without 21: what it covers ends on a border and holds no aggregator
--   Covering, covering_start, -whole, -next, -found, -end, -past  that walk
use Prim.Native.Nat.{ℕ, ◌≤◌, ◌<◌}
use mathlib.Core.Path.{◌≡◌, refl}
use mathlib.Core.List.Memᴰ
use mathlib.Core.List.{Memᴰ}
use mathlib.Core.Logic.{⊎_elim}
use mathlib.Core.Bool.{true, false, not}
use native.Mathlib.Omega.{arith}
use borrow.Author.Tests.{le-leb, leb-true, lt-ltb, ltb-true}
use Rattle.words.specs.Refusals.{◌if◌}
use Rattle.words.specs.RefusalNumbers.{bad_additional_bytes}
use Rattle.words.specs.Lists.{some}
use Rattle.words.proofs.Tests.{by_bool, true_false, and_both}
use Rattle.words.proofs.Refusals.{if_none, or_else_none}
use Rattle.words.proofs.Lists.{some_none, some_mem, keep_mem, keep_from}
use Rattle.units.specs.Units.{Sample, end, next, is_aggregator, top_units, border, top_between}
use Rattle.units.specs.Aggregators.{included_start, cover_end, cover_fault}
use Rattle.units.specs.Rules.{Whole, TopUnitsWhole, Clear}
use Rattle.units.proofs.Units.{next_after, whole_end, whole_aggregator}
use Rattle.units.proofs.Walks.{places_step, in_places, Reached, reached_next, reached_top, reached_mem, in_top, border_here, border_inside}

module _ (x : Sample) where
  pub clear_next : (a q : ℕ) → Reached x q → q < end x → is_aggregator x q ≡ false → Clear x a q → Clear x a (next x q)
  clear_next a q w h t c u m l g = ⊎_elim
      (λ k. c u m l (w.below u k))
      (λ k. ⊎_elim (λ e. rw e t) (λ k'. let i = in_places x _ _ u k' in absurd (omega arith)) (Memᴰ.cases_cons (rw (places_step x q (end x) h) at k)))
      (Memᴰ.append_cases w.done (rw w.split at m))

  -- 21, by what a walk from the aggregator's end finds
  pub cover_bad : (p : ℕ) → border x (cover_end x p) ≡ false → cover_fault x p ≡ bad_additional_bytes
  unfolding cover_fault
  cover_bad p h = rw h

  pub cover_aggregator : (p q : ℕ) → Reached x q → q < end x → next x p ≤ q → q < cover_end x p → is_aggregator x q ≡ true → cover_fault x p ≡ bad_additional_bytes
  unfolding cover_fault top_between
  cover_aggregator p q w h l u t = rw (some_mem (is_aggregator x) (top_between x (next x p) (cover_end x p)) (keep_mem _ (top_units x) (reached_mem x q w h) (rw (le-leb _ _ l, lt-ltb _ _ u))) t)
      (by_bool (border x (cover_end x p)) (λ k. rw k) (λ k. rw k))

  pub cover_good : (p : ℕ) → border x (cover_end x p) ≡ true → Clear x (next x p) (cover_end x p) → cover_fault x p ≡ 0
  unfolding cover_fault top_between
  cover_good p h c = rw (h, some_none (is_aggregator x) (top_between x (next x p) (cover_end x p)) (λ u m. let k = keep_from _ (top_units x) m in let b = and_both _ _ k.1 in c u k.0 (leb-true _ _ b.0) (ltb-true _ _ b.1)))

  -- an aggregator without 21
  pub cover_border : (p : ℕ) → cover_fault x p ≡ 0 → border x (cover_end x p) ≡ true
  unfolding cover_fault
  cover_border p e = by_bool (border x (cover_end x p))
      (λ t. t)
      (λ t. let z : ◌≡◌ {A = ℕ} bad_additional_bytes 0 = rw t at e in absurd (omega arith))

  pub cover_clear : (p : ℕ) → cover_fault x p ≡ 0 → Clear x (next x p) (cover_end x p)
  unfolding cover_fault top_between
  cover_clear p e q m l u =
      let b = or_else_none (bad_additional_bytes if not (border x (cover_end x p))) _ e in
      let n : some (is_aggregator x) (top_between x (next x p) (cover_end x p)) ≡ false = if_none 20 _ b.1 in
      by_bool (is_aggregator x q)
      (λ t. true_false _ (some_mem (is_aggregator x) (top_between x (next x p) (cover_end x p)) (keep_mem _ (top_units x) m (rw (le-leb _ _ l, lt-ltb _ _ u))) t) n)
      (λ t. t)

  -- an aggregator at a top-level place: it lies in the sample, and has additional_bytes
  pub record Aggregator (p : ℕ) : Type 0 where
    pub inside : p < end x
    pub ends : next x p ≤ end x
    pub head : included_start x p ≤ next x p
    pub there : Reached x p

  pub aggregator : (p : ℕ) → TopUnitsWhole x → Memᴰ p (top_units x) → is_aggregator x p ≡ true → Aggregator p
  aggregator p g m t = let w = g p m in record {
    inside = in_top x p m;
    ends = (whole_end x (end x) p w).1;
    head = whole_aggregator x (end x) p w t;
    there = reached_top x p m;
  }

  -- The walk of 21 over what the aggregator at p covers, from its end a up to b, now at q.
  pub record Covering (p a b q : ℕ) : Type 0 where
    pub wholes : TopUnitsWhole x
    pub start : a ≡ next x p
    pub stop : b ≡ cover_end x p
    pub from : a ≤ q
    pub inside : q ≤ end x
    pub fits : b ≤ end x
    pub reached : Reached x q
    pub clear : Clear x a q
    pub past : b < q → border x b ≡ false

  pub covering_start : (p b : ℕ) → TopUnitsWhole x → Aggregator p → b ≡ cover_end x p → b ≤ end x → Covering p (next x p) b (next x p)
  covering_start p b w g s f = record {
    wholes = w;
    start = refl;
    stop = s;
    from = omega arith;
    inside = g.ends;
    fits = f;
    reached = reached_next x p g.inside g.there;
    clear = λ u m l k. absurd (omega arith);
    past = λ k. absurd (omega arith);
  }

  module _ (p a b q : ℕ) (c : Covering p a b q) where
    pub covering_whole : q < b → Whole x (end x) q
    covering_whole h = c.wholes q (reached_mem x q c.reached (let f = c.fits in omega arith))

    pub covering_next : q < b → is_aggregator x q ≡ false → Covering p a b (next x q)
    covering_next h t =
        let i : q < end x = omega (arith, c.fits) in
        let n = next_after x q in
        let g : next x q ≤ end x = (whole_end x (end x) q (covering_whole h)).1 in
        record {
          wholes = c.wholes;
          start = c.start;
          stop = c.stop;
          from = omega (arith, c.from);
          inside = g;
          fits = c.fits;
          reached = reached_next x q i c.reached;
          clear = clear_next a q c.reached i t c.clear;
          past = λ k. border_inside x q b c.reached i g h k;
        }

    pub covering_found : q < b → is_aggregator x q ≡ true → cover_fault x p ≡ bad_additional_bytes
    covering_found h t = cover_aggregator p q c.reached (omega (arith, c.fits)) (omega (arith, c.from, c.start)) (omega (arith, c.stop)) t

    pub covering_end : q ≡ b → cover_fault x p ≡ 0
    covering_end e = cover_good p (rw (← c.stop, ← e) (border_here x q c.reached c.inside)) (λ u m l g. c.clear u m (omega (arith, c.start)) (omega (arith, c.stop)))

    pub covering_past : b ≤ q → (q ≡ b → ⊥) → cover_fault x p ≡ bad_additional_bytes
    covering_past h n = cover_bad p (rw (← c.stop) (c.past (omega arith)))
