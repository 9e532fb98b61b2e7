-- The references of a track, in any table, found one after the other. Assumes nothing.
--
--   comes_from                                   whether a reference comes from a track
--   counted_none, counted_more, counted_all_lem  how many of the first i references come from a track
--   counted_hit, counted_miss                    one reference more
--   found_here, found_none                       the reference of a number
use Prim.Native.Nat.{ℕ, ◌+◌, ◌<◌}
use mathlib.Core.Path.{◌≡◌, refl, sym, ◌∙◌}
use mathlib.Core.Bool.{Bool, true}
use mathlib.Core.List.{List, [], ◌∷◌, map}
use native.Mathlib.Omega.{arith}
use borrow.Author.Tests.{eq-eqb, ne_eqb}
use lib.Dec.{eqb}
use lib.ListN.{length}
use Rattle.words.specs.Tests.{◌≡?◌, pick}
use Rattle.words.specs.Lists.{keep, nth, upto}
use Rattle.words.proofs.Tests.{by_bool}
use Rattle.bundles.specs.Recordings.{Reference, no_reference, references_from}
use Rattle.words.proofs.Entries.{map_append}
use Rattle.tables.specs.Tables.{cell, reference_row, from_column, reference_total, reference_in, layout_in}
use Rattle.words.proofs.Rows.{upto_more, upto_split, keep_at, keep_more, nth_beyond}

abbrev pub comes_from : ℕ → Reference → Bool
comes_from k f = f.from ≡? k

module _ (t : List ℕ) (k : ℕ) where
  -- how many of the first i references come from track k
  unfoldable pub counted : ℕ → ℕ
  counted i = length (keep (comes_from k) (map (reference_in t) (upto i)))

  pub counted_none : counted 0 ≡ 0
  unfolding counted upto keep
  counted_none = refl

  pub counted_more : (i : ℕ) → counted (i + 1) ≡ pick (cell t (reference_row (i + 1)) from_column ≡? k) (counted i + 1) (counted i)
  unfolding counted
  counted_more i = rw (upto_more i, map_append (reference_in t) (upto i) ((i + 1) ∷ [])) (keep_more (comes_from k) (map (reference_in t) (upto i)) (reference_in t (i + 1)))

  -- one reference more, by the track that it comes from
  module _ (i : ℕ) {count from : ℕ} (e : count ≡ counted i) (f : from ≡ cell t (reference_row (i + 1)) from_column) where
    pub counted_hit : from ≡ k → count + 1 ≡ counted (i + 1)
    counted_hit h = rw (counted_more i, ← f, eq-eqb from k h, e)

    pub counted_miss : (from ≡ k → ⊥) → count ≡ counted (i + 1)
    counted_miss h = rw (counted_more i, ← f, ne_eqb from k h) e

  pub counted_all_lem : length (references_from (layout_in t) k) ≡ counted (reference_total t)
  unfolding references_from layout_in counted
  counted_all_lem = refl

  found_at : (i : ℕ) → i < reference_total t → comes_from k (reference_in t (i + 1)) ≡ true → nth (references_from (layout_in t) k) (counted i + 1) no_reference ≡ reference_in t (i + 1)
  unfolding references_from layout_in counted
  found_at i h e =
      let s = upto_split i (reference_total t) h in
      rw (s.is, map_append (reference_in t) (upto i) ((i + 1) ∷ s.rest)) (keep_at (comes_from k) (map (reference_in t) (upto i)) (reference_in t (i + 1)) (map (reference_in t) s.rest) no_reference e)

  -- the count has come to the number that is looked for
  pub found_here : (i index : ℕ) → i < reference_total t → counted i < index → counted (i + 1) ≡ index → nth (references_from (layout_in t) k) index no_reference ≡ reference_in t (i + 1)
  found_here i index h l e =
      by_bool (eqb (cell t (reference_row (i + 1)) from_column) k)
      (λ q.
      let c : index ≡ counted i + 1 = sym e ∙ counted_more i ∙ rw q in
      rw c (found_at i h q))
      (λ q.
      let c : index ≡ counted i = sym e ∙ counted_more i ∙ rw q in
      absurd (omega arith))

  pub found_none : (index : ℕ) → counted (reference_total t) < index → nth (references_from (layout_in t) k) index no_reference ≡ no_reference
  found_none index h = nth_beyond (references_from (layout_in t) k) index no_reference (rw counted_all_lem h)
