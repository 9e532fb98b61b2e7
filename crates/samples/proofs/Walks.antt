-- The two walks of the check, unit by unit. Assumes nothing.
--
--   top_judge, included_judge         what a walk gives for a unit
--   top_whole, whole_top              where the first walk passed, every top-level unit is whole; the other way
--   content_ok                        nothing wrong in a top-level unit: no inside fault, no 21
--   content_included, -cover, -other  what stands in a top-level unit, by parts
--   TopWalk, top_start, -next, -stop, -done               the first walk as far as it has come; how it ends
--   ContentWalk, content_start, -next, -stop, -done       the second
--   IncludedWalk, included_next, -stop, -done             and in an aggregator
--   next_is                           a length field that was read, and the place after the unit
--   top_has                           a top-level unit is among the top-level units
use Prim.Native.Nat.{ℕ, ◌+◌, ◌≤◌, ◌<◌}
use mathlib.Core.Path.{◌≡◌, refl, sym, ◌∙◌}
use mathlib.Core.List.{List}
use mathlib.Core.Bool.{true, false}
use native.Mathlib.Omega.{arith}
use Rattle.words.specs.Refusals.{ok, refused, Verdict, ◌at_place◌}
use Rattle.words.specs.Lists.{has}
use Rattle.words.specs.Bytes.{big}
use Rattle.words.proofs.Refusals.{and_ok, at_ok, at_none, by_verdict, first_ok, first_all}
use Rattle.words.proofs.Lists.{has_mem}
use Rattle.numbers.specs.Sizes.{in_bytes}
use Rattle.units.specs.Units.{Sample, sample, end, size, next, is_aggregator, unit_fault, top_units}
use Rattle.units.specs.Extractors.{extractor_fault}
use Rattle.units.specs.Aggregators.{included_fault, included_start, cover_fault}
use Rattle.units.specs.declared.Track.{Track}
use Rattle.units.specs.Rules.{Whole, TopUnitsWhole}
use Rattle.units.proofs.Units.{whole, whole_none, included_rules}
use Rattle.units.proofs.Walks.{walk, walk_none, walk_here, walk_on, Reached, reached_start, reached_next, reached_mem}
use Rattle.samples.specs.Check.{inside_verdict, cover_verdict, content_verdict, top_verdict, contents_verdict}

module _ (x : Sample) where
  abbrev pub top_judge : ℕ → Verdict
  top_judge p = unit_fault x (end x) p at_place p

  abbrev pub included_judge : ℕ → ℕ → Verdict
  included_judge e q = included_fault x e q at_place q

  pub top_whole : top_verdict x ≡ ok tt → TopUnitsWhole x
  top_whole e q m = whole x (end x) q (at_ok _ q (first_ok top_judge (top_units x) e m))

  pub whole_top : TopUnitsWhole x → top_verdict x ≡ ok tt
  whole_top w = first_all top_judge (top_units x) (λ q m. at_none q (whole_none x (end x) q (w q m)))

  pub top_has : (p : ℕ) → Reached x p → p < end x → has p (top_units x) ≡ true
  top_has p w h = has_mem p (top_units x) (reached_mem x p w h)

  -- what stands in a top-level unit
  pub content_ok : (p : ℕ) → content_verdict x p ≡ ok tt → (inside_verdict x p ≡ ok tt) × (cover_verdict x p ≡ ok tt)
  unfolding content_verdict
  content_ok p e = and_ok (inside_verdict x p) (cover_verdict x p) e

  pub content_included : (p : ℕ) {n q : ℕ} → is_aggregator x p ≡ true → walk x (included_judge (next x p)) (included_start x p) (next x p) ≡ refused n q → content_verdict x p ≡ refused n q
  unfolding content_verdict inside_verdict
  content_included p t e = rw (t, e)

  pub content_cover : (p : ℕ) → is_aggregator x p ≡ true → walk x (included_judge (next x p)) (included_start x p) (next x p) ≡ ok tt → content_verdict x p ≡ cover_fault x p at_place p
  unfolding content_verdict inside_verdict cover_verdict
  content_cover p t e = rw (t, e)

  pub content_other : (p : ℕ) → is_aggregator x p ≡ false → content_verdict x p ≡ extractor_fault x p at_place p
  unfolding content_verdict inside_verdict cover_verdict
  content_other p t = rw t (by_verdict (extractor_fault x p at_place p) (λ n q v. rw v) (λ v. rw v))

  -- The first walk, which has come to p: what is left of it gives the whole verdict.
  pub record TopWalk (p : ℕ) : Type 0 where
    pub inside : p ≤ end x
    pub rest : walk x top_judge p (end x) ≡ top_verdict x

  pub top_start : TopWalk 0
  unfolding top_units
  top_start = record { inside = omega arith; rest = refl }

  module _ (p : ℕ) (w : TopWalk p) where
    pub top_next : p < end x → top_judge p ≡ ok tt → TopWalk (next x p)
    top_next h v = record {
      inside = (whole x (end x) p (at_ok _ p v)).inside;
      rest = sym (walk_on x top_judge p (end x) h v) ∙ w.rest;
    }

    pub top_stop : p < end x → {n q : ℕ} → top_judge p ≡ refused n q → refused n q ≡ top_verdict x
    top_stop h v = sym (walk_here x top_judge p (end x) h v) ∙ w.rest

    pub top_done : end x ≤ p → ok tt ≡ top_verdict x
    top_done h = sym (walk_none x top_judge p (end x) h) ∙ w.rest

  -- The second walk, which has come to p.
  pub record ContentWalk (p : ℕ) : Type 0 where
    pub inside : p ≤ end x
    pub there : Reached x p
    pub rest : walk x (content_verdict x) p (end x) ≡ contents_verdict x

  pub content_start : ContentWalk 0
  unfolding top_units
  content_start = record { inside = omega arith; there = reached_start x; rest = refl }

  -- In the aggregator at p, which ends at e, the walk over the included units has come to q.
  pub record IncludedWalk (p e q : ℕ) : Type 0 where
    pub ends : e ≡ next x p
    pub rest : walk x (included_judge e) q e ≡ walk x (included_judge e) (included_start x p) e

  module _ (p : ℕ) (w : ContentWalk p) (h : p < end x) where
    pub content_whole : top_verdict x ≡ ok tt → Whole x (end x) p
    content_whole t = top_whole t p (reached_mem x p w.there h)

    pub content_next : top_verdict x ≡ ok tt → content_verdict x p ≡ ok tt → ContentWalk (next x p)
    content_next t v = record {
      inside = (content_whole t).inside;
      there = reached_next x p h w.there;
      rest = sym (walk_on x (content_verdict x) p (end x) h v) ∙ w.rest;
    }

    pub content_stop : {n q : ℕ} → content_verdict x p ≡ refused n q → refused n q ≡ contents_verdict x
    content_stop v = sym (walk_here x (content_verdict x) p (end x) h v) ∙ w.rest

  pub content_done : (p : ℕ) → ContentWalk p → end x ≤ p → ok tt ≡ contents_verdict x
  content_done p w h = sym (walk_none x (content_verdict x) p (end x) h) ∙ w.rest

  pub included_start_at : (p e : ℕ) → e ≡ next x p → IncludedWalk p e (included_start x p)
  included_start_at p e i = record { ends = i; rest = refl }

  -- an included unit without a fault ends within the aggregator
  pub included_inside : (e q : ℕ) → included_judge e q ≡ ok tt → next x q ≤ e
  included_inside e q v = (included_rules x e q (at_ok _ q v)).unit.inside

  module _ (p e q : ℕ) (w : IncludedWalk p e q) where
    pub included_next : q < e → included_judge e q ≡ ok tt → IncludedWalk p e (next x q)
    included_next h v = record { ends = w.ends; rest = sym (walk_on x (included_judge e) q e h v) ∙ w.rest }

    pub included_stop : q < e → is_aggregator x p ≡ true → {m r : ℕ} → included_judge e q ≡ refused m r → content_verdict x p ≡ refused m r
    included_stop h t v = content_included p t (rw w.ends at (sym w.rest ∙ walk_here x (included_judge e) q e h v))

    pub included_done : e ≤ q → is_aggregator x p ≡ true → content_verdict x p ≡ cover_fault x p at_place p
    included_done h t = content_cover p t (rw w.ends at (sym w.rest ∙ walk_none x (included_judge e) q e h))

-- a length field that was read is the unit's size, and the place after it the next one's
pub next_is : (k : Track) (s : List ℕ) (p n v : ℕ) → n ≡ in_bytes k.length_size → v ≡ big s p (in_bytes k.length_size) → p + n + v ≡ next (sample k s) p
unfolding size
next_is k s p n v e f = rw (f, e)
