-- What salvage promises, for any sample of any kind and any L. Read this first. Assumes nothing.
--
--   salvaged_formed                     the new sample is well formed
--   formed_unchanged, formed_nothing    a well-formed sample comes back unchanged, with an empty list
--   nothing_formed                      and only such a one has an empty list
--   salvaged_twice                      salvaging twice equals once, and the second list is empty
--   list_gives                          the old sample and the list alone give the new one
--   old_tiles, old_bytes                the old sample's bytes are its units, in order, and the bytes from the first top-level fault on
--   new_left                            the new sample is what is left of each unit
--   zeroed_same, zeroed_size            a zeroing leaves all other bytes of a unit, and its size, as they were
--   list_rises, list_inside             the places in the list rise, and lie in the old sample
use Prim.Native.Nat.{ℕ, ◌+◌, ◌≤◌, ◌<◌}
use mathlib.Core.Path.{◌≡◌, refl, ap, sym, ◌∙◌, subst}
use mathlib.Core.List.{List, [], ◌∷◌, ◌++◌, Memᴰ}
use mathlib.Core.Logic.{◌⊎◌, ⊎_elim}
use mathlib.Core.Bool.{false}
use native.Mathlib.Omega.{arith}
use borrow.Author.Tests.{ltb-false, lt-ltb, le-ltb, eqb-true}
use lib.ListN.{length, drop}
use Rattle.words.specs.Tests.{◌<?◌}
use Rattle.words.specs.Refusals.{ok, ◌at_place◌}
use Rattle.words.specs.Lists.{keep, each, ◌∈◌}
use Rattle.words.specs.Bytes.{byte_at, bytes, splice}
use Rattle.words.proofs.Tests.{by_bool}
use Rattle.words.proofs.Refusals.{by_verdict, at_none, at_ok, first_all, first_ok}
use Rattle.words.proofs.Lists.{each_cong, keep_from, some_none, Rising}
use Rattle.words.proofs.Bytes.{bytes_length}
use Rattle.words.proofs.Splices.{splice_before, splice_after}
use Rattle.numbers.specs.Sizes.{header_size}
use Rattle.units.specs.Units.{Sample, L, end, type, next, aggregator_type, extractor_type, is_aggregator, top_units, top_between}
use Rattle.units.specs.Aggregators.{included, included_fault, cover_end}
use Rattle.units.specs.Rules.{Tiles}
use Rattle.units.proofs.Units.{included_rules, included_none, extractor_none, extractor_size_lem, whole_aggregator}
use Rattle.units.proofs.Covers.{cover_good, cover_border, cover_clear}
use Rattle.samples.specs.Check.{check, inside_verdict, top_verdict}
use Rattle.samples.proofs.Laws.{rules, rules_check, check_top, top_tile}
use Rattle.samples.proofs.Walks.{top_whole, whole_top}
use Rattle.salvage_rules.specs.declared.Fate.{Fate}
use Rattle.salvage_rules.specs.declared.Fate.TheVariants.{Kept, Dropped, Zeroed}
use Rattle.salvage_rules.specs.Salvage.{holding, Change, first_fault, cut, whole_units, is_dropped, loses_cover, fate, unit_bytes, zeroed_bytes, left_by, new_bytes, new_content, change_at, salvaged, tail_drop, changes, listed_end, applied_at, applied}
use Rattle.salvage_rules.proofs.Units.{inside_ok, inside_aggregator, inside_other, dropped_not, cover_kept, cover_other, cover_stays, fate_kept, by_fate, zeroed_from, new_by, zeroed_length, unit_length}
use Rattle.salvage_rules.proofs.Formed.{new_formed}
use Rattle.salvage_rules.proofs.Cut.{fault_most, fault_some, fault_none, cut_end, cut_wholes, cut_all, cut_units, cut_next, cut_unit, cut_rest}
use Rattle.salvage_rules.proofs.Changes.{each_nothing, nothing_both, nothing_each, units_join, change_none, none_change, listed_drop, listed_zeroing, listed_tail, changes_rise, changes_inside}
use Rattle.salvage_rules.proofs.Reasons.{loses_aggregator}

module _ (x : Sample) where
  pub salvaged_formed : check (salvaged x) ≡ ok tt
  unfolding cut
  salvaged_formed = new_formed (cut x) (cut_wholes x)

  -- a well-formed sample
  module _ (e : check x ≡ ok tt) where
    none_dropped : (p : ℕ) → Memᴰ p (top_units x) → is_dropped x p ≡ false
    none_dropped p m = dropped_not x p inside
      where
        inside : inside_verdict x p ≡ ok tt
        inside = unfold inside_verdict in by_bool (is_aggregator x p)
            (λ t. rw t (first_all (λ q. included_fault x (next x p) q at_place q) (included x p) (λ q k. at_none q (included_none x (next x p) q ((rules x e).inside p q m t k)))))
            (λ t. rw t (at_none p (extractor_none x p ((rules x e).extractors p m))))

    none_loses : (p : ℕ) → Memᴰ p (top_units x) → loses_cover x p ≡ false
    none_loses p m = by_bool (is_aggregator x p)
        (λ t. cover_stays x p (cover_good x p ((rules x e).borders p m t) ((rules x e).clear p m t)) (some_none (is_dropped x) (top_between x (next x p) (cover_end x p)) (λ q k. none_dropped q (unfold top_between in (keep_from _ (top_units x) k).0))))
        (λ t. cover_other x p t)

    new_same : new_content x ≡ x.content
    unfolding new_content
    new_same =
        each_cong (new_bytes x) (unit_bytes x) (top_units x) (λ p m. new_by x p Kept (fate_kept x p (none_dropped p m) (none_loses p m)))
        ∙ units_join x (rules x e).tops

    pub formed_unchanged : salvaged x ≡ x
    formed_unchanged = ap (holding x) (ap new_content (cut_all x (check_top x e)) ∙ new_same)

    no_tail : tail_drop x ≡ []
    unfolding tail_drop
    no_tail = let f = fault_none x (check_top x e) in rw (le-ltb (first_fault x) (end x) (omega arith))

    pub formed_nothing : changes x ≡ []
    unfolding changes
    formed_nothing = rw (cut_all x (check_top x e), no_tail, each_nothing (change_at x) (top_units x) (λ p m. change_none x p (none_dropped p m) (none_loses p m)))

  -- an empty list
  module _ (e : changes x ≡ []) where
    both : (each (change_at (cut x)) (top_units (cut x)) ≡ []) × (tail_drop x ≡ [])
    unfolding changes
    both = nothing_both (each (change_at (cut x)) (top_units (cut x))) (tail_drop x) e

    top_good : top_verdict x ≡ ok tt
    unfolding tail_drop
    top_good = by_verdict (top_verdict x)
        (λ n p v. let f = fault_some x n p v in
        let t = lt-ltb (first_fault x) (end x) (omega arith) in
        let z : ◌≡◌ {A = ℕ} 1 0 = ap length (rw t at both.1) in
        absurd (omega arith))
        (λ v. v)

    untouched : (p : ℕ) → Memᴰ p (top_units x) → (is_dropped x p ≡ false) × (loses_cover x p ≡ false)
    untouched p m = none_change x p (nothing_each (change_at x) (top_units x) (rw (cut_all x top_good) at both.0) p m)

    pub nothing_formed : check x ≡ ok tt
    nothing_formed = rules_check x (record {
      tops = top_whole x top_good;
      inside = λ p q m t k. included_rules x (next x p) q (at_ok _ q (first_ok (λ q. included_fault x (next x p) q at_place q) (included x p) (inside_aggregator x p (inside_ok x p (untouched p m).0) t) k));
      borders = λ p m t. cover_border x p (cover_kept x p (untouched p m).1 t).0;
      clear = λ p m t. cover_clear x p (cover_kept x p (untouched p m).1 t).0;
      extractors = λ p m t. by_bool (is_aggregator x p)
          (λ a. let i = eqb-true (type x p) extractor_type t in let j = eqb-true (type x p) aggregator_type a in absurd (omega arith))
          (λ a. extractor_size_lem x p (inside_other x p (inside_ok x p (untouched p m).0) a) t);
    })

pub salvaged_twice : (x : Sample) → (salvaged (salvaged x) ≡ salvaged x) × (changes (salvaged x) ≡ [])
salvaged_twice x = (formed_unchanged (salvaged x) (salvaged_formed x), formed_nothing (salvaged x) (salvaged_formed x))

module _ (x : Sample) where
  pub old_bytes : x.content ≡ each (unit_bytes x) (whole_units x) ++ drop (first_fault x) x.content
  old_bytes =
      sym (cut_rest x)
      ∙ ap (λ (b : List ℕ). b ++ drop (first_fault x) x.content)
      (sym (units_join (cut x) (cut_wholes x)) ∙ each_cong (unit_bytes (cut x)) (unit_bytes x) (whole_units x) (λ p m. cut_unit x p m))

  -- without gap or overlap: each ends in the old sample where it does in the cut one
  tiles_same : (a b : ℕ) (ps : List ℕ) → ((p : ℕ) → p ∈ ps → next (cut x) p ≡ next x p) → Tiles (cut x) a b ps → Tiles x a b ps
  tiles_same a b [] h t = t
  tiles_same a b (p ∷ ps) h t =
      let e = h p (Memᴰ.head refl) in
      let below = tiles_same (next (cut x) p) b ps (λ q m. h q (Memᴰ.tail m)) t.2 in
      (t.0, (let l = t.1 in omega arith), subst (λ (n : ℕ). Tiles x n b ps) e below)

  pub old_tiles : Tiles x 0 (first_fault x) (whole_units x)
  old_tiles = tiles_same 0 (first_fault x) (whole_units x) (λ p m. cut_next x p m) (rw (← cut_end x) (top_tile (cut x) (whole_top (cut x) (cut_wholes x))))

  -- what is left of each, by the old sample's bytes
  same_left : (p : ℕ) → p ∈ whole_units x → new_bytes (cut x) p ≡ left_by x (fate (cut x) p) p
  unfolding zeroed_bytes
  same_left p m = by_fate (cut x) p
      (λ d e. rw e (new_by (cut x) p Dropped e))
      (λ d l e. rw e (new_by (cut x) p Zeroed e ∙ zeroed_cut p m))
      (λ d l e. rw e (new_by (cut x) p Kept e ∙ cut_unit x p m))
    where
      zeroed_cut : (p : ℕ) → p ∈ whole_units x → zeroed_bytes (cut x) p ≡ zeroed_bytes x p
      zeroed_cut p m = unfold zeroed_bytes cut in ap (λ (b : List ℕ). splice b (L x + header_size) (bytes (L x) 0)) (cut_unit x p m)

  pub new_left : (salvaged x).content ≡ each (λ p. left_by x (fate (cut x) p) p) (whole_units x)
  unfolding new_content
  new_left = each_cong _ _ (whole_units x) same_left

  -- the list and the old sample: where the tail's drop is listed, the sample ends there
  listed_end_lem : listed_end x (changes x) ≡ first_fault x
  unfolding listed_end
  listed_end_lem = let n = fault_most x in rw (listed_tail x) (by_bool (first_fault x <? end x)
      (λ t. rw t)
      (λ t. rw t (let l = ltb-false (first_fault x) (end x) t in omega arith)))

  applied_at_lem : (p : ℕ) → p ∈ whole_units x → applied_at x (changes x) p ≡ left_by x (fate (cut x) p) p
  applied_at_lem p m = rw (listed_drop x p m, listed_zeroing x p m) (by_fate (cut x) p
      (λ d e. rw (d, e))
      (λ d l e. rw (d, l, e))
      (λ d l e. rw (d, l, e)))

  pub list_gives : applied x (changes x) ≡ (salvaged x).content
  unfolding applied
  list_gives =
      ap (each (applied_at x (changes x))) (ap (λ (n : ℕ). keep (λ p. p <? n) (top_units x)) listed_end_lem ∙ sym (cut_units x))
      ∙ each_cong _ _ (whole_units x) applied_at_lem ∙ sym new_left

  -- a zeroing
  module _ (p : ℕ) (m : p ∈ whole_units x) (z : fate (cut x) p ≡ Zeroed) where
    pub zeroed_cut : zeroed_bytes (cut x) p ≡ zeroed_bytes x p
    zeroed_cut = sym (new_by (cut x) p Zeroed z) ∙ same_left p m ∙ ap (λ (f : Fate). left_by x f p) z

    pub zeroed_size : length (zeroed_bytes x p) ≡ length (unit_bytes x p)
    zeroed_size = let l = zeroed_from (cut x) p z in
        ap length (sym zeroed_cut) ∙ zeroed_length (cut x) p (cut_wholes x p m) (inside_ok (cut x) p l.0) (loses_aggregator (cut x) p l.1) ∙ ap length (cut_unit x p m)

    fits : L x + header_size + length (bytes (L x) 0) ≤ length (unit_bytes x p)
    unfolding cut
    fits =
        let w = cut_wholes x p m in
        let n = unit_length (cut x) p w in
        let c = ap length (cut_unit x p m) in
        let g = whole_aggregator (cut x) (end (cut x)) p w (loses_aggregator (cut x) p (zeroed_from (cut x) p z).1) in
        let b = bytes_length (L x) 0 in
        omega arith

    -- all but additional_bytes
    pub zeroed_same : (i : ℕ) → (i < L x + header_size) ⊎ (L x + header_size + L x ≤ i) → byte_at (zeroed_bytes x p) i ≡ byte_at (unit_bytes x p) i
    unfolding zeroed_bytes
    zeroed_same i h = ⊎_elim
        (λ l. splice_before (unit_bytes x p) (L x + header_size) (bytes (L x) 0) fits i l)
        (λ l. splice_after (unit_bytes x p) (L x + header_size) (bytes (L x) 0) fits i (let b = bytes_length (L x) 0 in omega arith))
        h

  pub list_rises : Rising (λ (c d : Change). c.place < d.place) (changes x)
  list_rises = changes_rise x

  pub list_inside : (c : Change) → c ∈ changes x → c.place < end x
  list_inside = changes_inside x
