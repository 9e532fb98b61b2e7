-- A count kept for a sample, without a change to what the table says. Assumes nothing.
--
--   set_beyond                               nothing is set past the end
--   cell_kept                                every other number stays
--   kept_count_layout, kept_count_recording  the table says and gives the same
--   kept_count_set, kept_count_other         the count that was kept, and every other
use Prim.Native.Nat.{ℕ, zero, suc, ◌+◌, ◌*◌, ◌≤◌, ◌<◌}
use mathlib.Core.Path.{◌≡◌, refl, ap}
use mathlib.Core.List.{List, [], ◌∷◌}
use native.Mathlib.Omega.{arith}
use borrow.Author.Tests.{ne_eqb, le-ltb}
use lib.Dec.{eqb, ltb}
use lib.ListN.{length, set}
use lib.Seq.{get_or-set_same, get_or-set_other}
use Rattle.words.specs.Tests.{◌<?◌}
use Rattle.words.specs.Lists.{upto}
use Rattle.words.proofs.Tests.{by_bool}
use Rattle.words.proofs.Lists.{map_cong}
use Rattle.tables.specs.Tables.{columns, counts_row, track_row, reference_row, sample_row, tracks_column, references_column, samples_column, kind_column, size_column, before_column, from_column, to_column, time_column, start_column, length_column, kept_count_column, cell, track_total, reference_total, sample_total, track_in, reference_in, before_in, owner_in, sample_entry_in, layout_in, content_in, recording_in, sample_cell, kept_count_in, with_kept_count}
use Rattle.words.proofs.Rows.{last_that_cong}

pub set_beyond : (l : List ℕ) (i a : ℕ) → length l ≤ i → set l i a ≡ l
set_beyond [] i a h = refl
set_beyond (x ∷ l) zero a h = absurd (omega arith)
set_beyond (x ∷ l) (suc i) a h = ap (λ r. x ∷ r) (set_beyond l i a (omega arith))

module _ (t : List ℕ) (n v : ℕ) where
  abbrev marked : List ℕ
  marked = set t (sample_row n * columns + kept_count_column) v

  pub cell_kept : (r c : ℕ) → c < columns → (r ≡ sample_row n → c ≡ kept_count_column → ⊥) → cell marked r c ≡ cell t r c
  unfolding cell
  cell_kept r c h o = get_or-set_other t (sample_row n * columns + kept_count_column) (r * columns + c) v 0 (λ e. o (omega arith) (omega arith))

  other : (r c : ℕ) → c < kept_count_column → cell marked r c ≡ cell t r c
  other r c h = cell_kept r c (omega arith) (λ e f. omega arith)

  track_total_lem : track_total marked ≡ track_total t
  track_total_lem = rw (other counts_row tracks_column (omega arith))

  reference_total_lem : reference_total marked ≡ reference_total t
  reference_total_lem = rw (other counts_row references_column (omega arith))

  sample_total_lem : sample_total marked ≡ sample_total t
  sample_total_lem = rw (other counts_row samples_column (omega arith))

  owner_same : (m : ℕ) → owner_in marked m ≡ owner_in t m
  owner_same m = rw track_total_lem (last_that_cong (λ k. before_in marked k <? m) (λ k. before_in t k <? m) (upto (track_total t)) (λ k q. rw (other (track_row k) before_column (omega arith))))

  marked_layout : layout_in marked ≡ layout_in t
  unfolding layout_in
  marked_layout =
      rw (
        track_total_lem,
        reference_total_lem,
        sample_total_lem,
        map_cong (track_in marked) (track_in t) (upto (track_total t)) (λ k m. rw (other (track_row k) kind_column (omega arith), other (track_row k) size_column (omega arith))),
        map_cong (reference_in marked) (reference_in t) (upto (reference_total t)) (λ i m. rw (other (reference_row i) from_column (omega arith), other (reference_row i) to_column (omega arith))),
        map_cong (sample_entry_in marked) (sample_entry_in t) (upto (sample_total t)) (λ m q. rw (owner_same m, other (sample_row m) time_column (omega arith))),
      )

  marked_recording : (b : List ℕ) → recording_in b marked ≡ recording_in b t
  unfolding recording_in
  marked_recording b =
      rw (
        marked_layout,
        sample_total_lem,
        map_cong (content_in b marked) (content_in b t) (upto (sample_total t)) (λ m q. rw (other (sample_row m) start_column (omega arith), other (sample_row m) length_column (omega arith))),
      )

  -- the table itself, or with a count kept
  pub kept_count_case : (P : List ℕ → Type 0) → P t → P marked → P (with_kept_count t n v)
  unfolding with_kept_count
  kept_count_case P g h = by_bool (eqb n 0) (λ q. rw q g) (λ q. rw q (by_bool (ltb (sample_total t) n) (λ r. rw r g) (λ r. rw r h)))

pub kept_count_layout : (t : List ℕ) (n v : ℕ) → layout_in (with_kept_count t n v) ≡ layout_in t
kept_count_layout t n v = kept_count_case t n v (λ x. layout_in x ≡ layout_in t) refl (marked_layout t n v)

pub kept_count_recording : (b t : List ℕ) (n v : ℕ) → recording_in b (with_kept_count t n v) ≡ recording_in b t
kept_count_recording b t n v = kept_count_case t n v (λ x. recording_in b x ≡ recording_in b t) refl (marked_recording t n v b)

-- the count that was kept
pub kept_count_set : (t : List ℕ) (n v : ℕ) → 0 < n → n ≤ sample_total t → sample_row n * columns + kept_count_column < length t → kept_count_in (with_kept_count t n v) n ≡ v
unfolding with_kept_count sample_cell
kept_count_set t n v h l r =
    rw (ne_eqb n 0 (λ z. omega arith), le-ltb (sample_total t) n l, sample_total_lem t n v, le-ltb (sample_total t) n l) (unfold cell in get_or-set_same t (sample_row n * columns + kept_count_column) v 0 r)

-- every other count stays
pub kept_count_other : (t : List ℕ) (n m v : ℕ) → (m ≡ n → ⊥) → kept_count_in (with_kept_count t n v) m ≡ kept_count_in t m
kept_count_other t n m v h = kept_count_case t n v (λ x. kept_count_in x m ≡ kept_count_in t m) refl (unfold sample_cell in rw (sample_total_lem t n v, cell_kept t n v (sample_row m) kept_count_column (omega arith) (λ e f. h (omega arith))))
