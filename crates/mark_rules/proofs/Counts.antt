-- What a walk has met from one state to another. Assumes nothing.
--
--   Met, met_none, -entered, -passed  the state e is where the walk from a stands when it has met the units qs
--   reach_met                         a walk over a stretch up to e stands at e, and has met what lies between
--   extractors_none, -some            no extractor among units exactly if none is counted
--   met_between                       two states say what the walk has met between
--   state_met                         the states at two borders
--   state_counts                      the state at a border counts the units before it
--   state_next                        the state after a unit that is no aggregator
use Rattle.std.specs.Prelude.{Err, Ok}
use Prim.Native.Nat.{ℕ, zero, suc, ◌+◌, ◌-◌, ◌≤◌, ◌<◌}
use mathlib.Core.Path.{◌≡◌, refl, ap, sym, ◌∙◌, subst}
use mathlib.Core.List.{List, [], ◌∷◌, map}
use mathlib.Core.Bool.{true, false, not, ◌&&◌}
use native.Mathlib.Omega.{arith}
use borrow.Author.Tests.{le-leb, leb-true, leb-false, eq-eqb, ne_eqb}
use lib.Dec.{leb}
use lib.ListN.{length}
use Rattle.words.specs.Tests.{◌<?◌, ◌≤?◌, pick}
use Rattle.words.specs.Refusals.{ok}
use Rattle.words.specs.Lists.{keep, some, sum}
use Rattle.words.specs.RefusalNumbers.{extractor_copied}
use Rattle.words.proofs.Tests.{by_bool, true_false}
use Rattle.words.proofs.Kept.{keep_keep, keep_same}
use Rattle.numbers.proofs.Laws.{L_some}
use Rattle.units.specs.Units.{Sample, size, next, is_aggregator, is_extractor}
use Rattle.units.specs.Aggregators.{units}
use Rattle.units.proofs.Units.{next_after}
use Rattle.samples.specs.Check.{check}
use Rattle.copies.specs.Copies.{without_aggregators}
use Rattle.copies.specs.Flat.{UnitBorder, BetweenBorders}
use Rattle.copies.proofs.Flat.{Walking, walking_start, flat_between}
use Rattle.copies.proofs.Rest.{rest, rest_end, rest_skip, rest_take, walking_skip, walking_take}
use Rattle.mark_rules.specs.declared.WalkState.{WalkState}
use Rattle.mark_rules.specs.States.{entered, passed, state_step, reach, state_at}
use Rattle.mark_rules.specs.Amounts.{between}
use Rattle.mark_rules.proofs.States.{step_aggregator, step_other, reach_here, reach_step, state_on, state_front}
use Rattle.mark_rules.proofs.Standing.{border_state, from_front}

module _ (x : Sample) where
  abbrev found : List ℕ → ℕ
  found qs = length (keep (is_extractor x) qs)

  pub record Met (a e : WalkState) (to : ℕ) (qs : List ℕ) : Type 0 where
    pub place : e.place ≡ to
    pub count : e.count ≡ a.count + length qs
    pub bytes : e.bytes ≡ a.bytes + sum (map (size x) qs)
    pub extractors : e.extractors ≡ a.extractors + found qs

  met_none : (s : WalkState) (to : ℕ) → s.place ≡ to → Met s s to []
  unfolding sum keep
  met_none s to h = record { place = h; count = omega arith; bytes = omega arith; extractors = omega arith }

  met_entered : (s e : WalkState) (to : ℕ) (qs : List ℕ) → Met (entered x s) e to qs → Met s e to qs
  met_entered s e to qs m = record { place = m.place; count = m.count; bytes = m.bytes; extractors = m.extractors }

  met_passed : (s e : WalkState) (to : ℕ) (qs : List ℕ) → Met (passed x s) e to qs → Met s e to (s.place ∷ qs)
  unfolding sum keep
  met_passed s e to qs m =
      let c = m.count in
      let b = m.bytes in
      let f = m.extractors in
      record {
        place = m.place;
        count = omega arith;
        bytes = omega arith;
        extractors = by_bool (is_extractor x s.place)
            (λ t. let g = rw t at f in rw t (omega arith))
            (λ t. let g = rw t at f in rw t (omega arith));
      }

  walked : (k e : ℕ) (s : WalkState) → e - s.place ≤ k → Walking x e s.place → Met s (reach x e s) e (rest x e s.place)
  walked zero e s f w =
      let i = w.inside in
      let l : e ≤ s.place = omega arith in
      let same : s.place ≡ e = omega arith in
      rw (reach_here x e s l, rest_end x e s.place l) (met_none s e same)
  walked (suc k) e s f w = by_bool (leb e s.place)
      (λ q. let i = w.inside in
      let l = leb-true e s.place q in
      let same : s.place ≡ e = omega arith in
      rw (reach_here x e s l, rest_end x e s.place l) (met_none s e same))
      (λ q. let l = leb-false e s.place q in let a = next_after x s.place in let b = L_some x.length_size in by_bool (is_aggregator x s.place)
      (λ t. let j = step_aggregator x s t in
      rw (reach_step x e s l, j, rest_skip x e s.place l t)
      (met_entered s _ e _ (walked k e (entered x s) (omega arith) (walking_skip x e s.place w l t))))
      (λ t. let j = step_other x s t in
      rw (reach_step x e s l, j, rest_take x e s.place l t)
      (met_passed s _ e _ (walked k e (passed x s) (omega arith) (walking_take x e s.place w l t)))))

  pub reach_met : (e : ℕ) (s : WalkState) → Walking x e s.place → Met s (reach x e s) e (rest x e s.place)
  reach_met e s w = walked e e s (omega arith) w

  -- an extractor among units, and their number
  extractors_none : (qs : List ℕ) → some (is_extractor x) qs ≡ false → found qs ≡ 0
  unfolding some keep
  extractors_none [] h = refl
  extractors_none (q ∷ qs) h = by_bool (is_extractor x q)
      (λ t. true_false _ refl (rw t at h))
      (λ t. rw t (extractors_none qs (rw t at h)))

  extractors_some : (qs : List ℕ) → some (is_extractor x) qs ≡ true → 0 < found qs
  unfolding some keep
  extractors_some [] h = true_false _ h refl
  extractors_some (q ∷ qs) h = by_bool (is_extractor x q)
      (λ t. rw t (omega arith))
      (λ t. rw t (extractors_some qs (rw t at h)))

  pub met_between : (a e : WalkState) (to : ℕ) (qs : List ℕ) → Met a e to qs →
      between a e ≡ pick (some (is_extractor x) qs) (Err extractor_copied) (Ok (record { count = length qs; bytes = sum (map (size x) qs) }))
  unfolding between
  met_between a e to qs m =
      let c = m.count in
      let b = m.bytes in
      let f = m.extractors in
      by_bool (some (is_extractor x) qs)
      (λ t. let k = extractors_some qs t in rw (t, ne_eqb e.extractors a.extractors (λ g. omega arith)))
      (λ t. let k = extractors_none qs t in
      let i : e.count - a.count ≡ length qs = omega arith in
      let j : e.bytes - a.bytes ≡ sum (map (size x) qs) = omega arith in
      rw (t, eq-eqb e.extractors a.extractors (omega arith), i, j))

  -- the states at two borders
  pub state_met : (o e : ℕ) → BetweenBorders x o e → Met (state_at x o) (state_at x e) e (rest x e o)
  state_met o e s =
      let a = state_at x o in
      let at = border_state x s.formed o s.start in
      let w : Walking x e a.place = rw at (walking_start x o e s) in
      subst (λ q. Met a (state_at x e) e (rest x e q)) at (rw (state_on x o e s.order) at (reach_met e a w))

  -- the state at a border, by the units before it
  pub state_counts : check x ≡ ok tt → (d : ℕ) → UnitBorder x d → let before = keep (λ q. q <? d) (without_aggregators x (units x)) in
      ((state_at x d).count ≡ length before) × ((state_at x d).bytes ≡ sum (map (size x) before)) × ((state_at x d).extractors ≡ length (keep (is_extractor x) before))
  state_counts k d b =
      let m = state_met 0 d (from_front x k d b) in
      let z = state_front x in
      let e : keep (λ q. q <? d) (without_aggregators x (units x)) ≡ rest x d 0 =
      keep_keep (λ q. q <? d) (λ q. not (is_aggregator x q)) (units x) ∙ ap (without_aggregators x) (keep_same (λ q. q <? d) (λ q. (0 ≤? q) && (q <? d)) (units x) (λ q i. rw (le-leb 0 q (omega arith))) ∙ flat_between x 0 d (from_front x k d b)) in
      let c : (state_at x 0).count ≡ 0 = ap (λ (s : WalkState). s.count) z in
      let y : (state_at x 0).bytes ≡ 0 = ap (λ (s : WalkState). s.bytes) z in
      let f : (state_at x 0).extractors ≡ 0 = ap (λ (s : WalkState). s.extractors) z in
      rw e (omega (arith, m.count), omega (arith, m.bytes), omega (arith, m.extractors))

  -- the state after a unit that is no aggregator
  pub state_next : (o : ℕ) → (state_at x o).place ≡ o → is_aggregator x o ≡ false → state_at x (next x o) ≡ state_step x (state_at x o)
  state_next o h t =
      let a = state_at x o in
      let n = next_after x o in
      let j : state_step x a ≡ passed x a = step_other x a (rw h t) in
      let p : next x a.place ≡ next x o = ap (next x) h in
      sym (state_on x o (next x o) (omega arith))
      ∙ reach_step x (next x o) a (omega arith)
      ∙ reach_here x (next x o) (state_step x a) (rw j (omega arith))
