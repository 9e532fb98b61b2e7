-- The range of the linked track holds the base, so the steps from it neither wrap nor leave the table's limits. Assumes nothing.
use Rattle.std.specs.Prelude.{None, Option, Some}
use Prim.Native.Nat.{ℕ, ◌+◌, ◌-◌, ◌≤◌, ◌<◌}
use native.Mathlib.Omega.{arith}
use native.Mathlib.Nat.{pos_of_ne-zero}
use mathlib.Core.Path.{◌≡◌, ap, sym, ◌∙◌}
use mathlib.Core.List.{List}
use borrow.Author.Tests.{eq-eqb, ne_eqb}
use Rattle.words.specs.Lists.{nth}
use Rattle.words.proofs.Rows.{nth_none}
use Rattle.numbers.specs.declared.SampleNumber.{SampleNumber}
use Rattle.bundles.specs.Recordings.{no_reference, track_of, references_from, samples_in}
use Rattle.tables.specs.Tables.{layout_in, range_in}
use Rattle.links.specs.declared.SearchResult.{SearchResult}
use Rattle.links.specs.Links.{signed, stepped, base, base_search, sample_named}
use Rattle.links.specs.Named.{sample_if_any}
use Rattle.links.proofs.Links.{base_found}
use Rattle.links.proofs.Cases.{range_most, base_in_range, base_track, named_no_base, named_at, linked_by, range_at, range_past}
use Rattle.links.proofs.sample_named.Goals as goal
use Rattle.links.proofs.sample_named.Goals.{then-k-eq0-via-then-k-eq0, then-k-eq0-via-else-k-eq0+then-size-k}

none : (m : ℕ) → m ≡ 0 → None ≡ sample_if_any m
unfolding sample_if_any
none m e = rw (eq-eqb m 0 e)

some : (m k : ℕ) → m ≡ k → 0 < k → Some (record { 0 = k }) ≡ sample_if_any m
unfolding sample_if_any
some m k e h = rw (e, ne_eqb k 0 (λ z. omega arith))

-- what the search found is the base, in the table's layout
found : (t : List ℕ) (n k : ℕ) (s : SearchResult) → s ≡ base_search (layout_in t) n k → s.found ≡ base (layout_in t) n k
found t n k s e = ap (λ (r : SearchResult). r.found) e ∙ sym (base_found (layout_in t) n k)

-- the linked track k of the own track, and what the search in it found
module _ (t : List ℕ) (n index offset : ℕ) {own k : ℕ} (o : own ≡ track_of (layout_in t) n) (l : k ≡ (nth (references_from (layout_in t) own) index no_reference).to) (s : SearchResult) (e : s ≡ base_search (layout_in t) n k) where
  abbrev named : Option SampleNumber
  named = sample_if_any (sample_named (layout_in t) n index offset)

  no_base : s.found ≡ 0 → None ≡ named
  no_base z = none _ (named_no_base (layout_in t) n index offset (linked_by (layout_in t) n index o l) (found t n k s e) z)

  -- the steps lead to the sample that stands there
  module _ (h : s.found ≡ 0 → ⊥) (j : ℕ) (f : j ≡ stepped s.found (signed offset)) where
    there : sample_named (layout_in t) n index offset ≡ nth (samples_in (layout_in t) k) j 0
    there = named_at (layout_in t) n index offset (linked_by (layout_in t) n index o l) (found t n k s e) h f

    track : 0 < k
    track = base_track t n k (λ z. h (found t n k s e ∙ z))

    before_first : j ≡ 0 → None ≡ named
    before_first z = none _ (rw (there, z) (nth_none (samples_in (layout_in t) k) 0))

    past_last : (range_in t k).after - (range_in t k).before < j → None ≡ named
    past_last g = none _ (there ∙ range_past t k track j g)

    inside : (j ≡ 0 → ⊥) → j ≤ (range_in t k).after - (range_in t k).before → Some (record { 0 = (range_in t k).before + j }) ≡ named
    inside z g = let p = pos_of_ne-zero z in some _ _ (there ∙ range_at t k track j p g) (omega arith)

pub returns-then-b-eq0 : goal.returns-then-b-eq0
returns-then-b-eq0 c = let a = c.args in no_base a.t.now a.n.0 a.index a.offset c.sample_track-own.ensures c.reference-track.ensures _ c.find_base-b.ensures.0 c.if-b-eq0.true

pub stepped-k-requires : goal.stepped-k-requires
stepped-k-requires c = let t = c.args.t.now in let k = c.reference-track.result.0 in
    let f = found t c.args.n.0 k _ c.find_base-b.ensures.0 in
    omega (arith, base_in_range t c.args.n.0 k, range_most t k)

pub returns-then-k-eq0 : goal.returns-then-k-eq0
returns-then-k-eq0 c = let a = c.args in
    elim c.then-k-eq0.branch [
      | then-k-eq0-via-then-k-eq0 w ↦ before_first a.t.now a.n.0 a.index a.offset c.sample_track-own.ensures c.reference-track.ensures _ c.find_base-b.ensures.0 c.if-b-eq0.false _ c.stepped-k.ensures w.if-k-eq0.true
      | then-k-eq0-via-else-k-eq0+then-size-k w ↦ past_last a.t.now a.n.0 a.index a.offset c.sample_track-own.ensures c.reference-track.ensures _ c.find_base-b.ensures.0 c.if-b-eq0.false _ c.stepped-k.ensures (rw (← c.sample_range-range.ensures.0, ← w.size.ensures) w.if-size-k.true)
    ]

pub overflow_add-result : goal.overflow_add-result
overflow_add-result c = let t = c.args.t.now in
    let m = rw (← c.sample_range-range.ensures.0) at (range_most t c.reference-track.result.0) in
    let h = rw c.size.ensures at c.if-size-k.false in
    omega arith

pub returns : goal.returns
returns c = let a = c.args in
    rw c.sample_range-range.ensures.0 (inside a.t.now a.n.0 a.index a.offset c.sample_track-own.ensures c.reference-track.ensures _ c.find_base-b.ensures.0 c.if-b-eq0.false _ c.stepped-k.ensures c.if-k-eq0.false (rw (← c.sample_range-range.ensures.0, ← c.size.ensures) c.if-size-k.false))
