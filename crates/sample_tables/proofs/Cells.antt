-- What a table says of a sample, by the numbers of its row, also where there is no such sample. Assumes nothing.
--
--   by_number                         a sample with number 0, one past the last, or one that there is
--   cell_none, cell_past, cell_here   a number of its row
--   time_cell                         its decode time
--   content_cells                     its bytes
use Prim.Native.Nat.{ℕ, ◌≤◌, ◌<◌}
use mathlib.Core.Path.{◌≡◌, ap, sym, ◌∙◌}
use mathlib.Core.List.{List, []}
use native.Mathlib.Nat.{pos_of_ne-zero}
use native.Mathlib.Omega.{arith}
use borrow.Author.Tests.{lt-ltb, le-ltb, eq-eqb, ne_eqb, eqb-true, eqb-false, ltb-true, ltb-false}
use lib.Dec.{eqb, ltb}
use lib.ListN.{length}
use Rattle.words.specs.Tests.{◌≤?◌}
use Rattle.words.proofs.Tests.{by_bool}
use Rattle.bundles.specs.Recordings.{time_of, content_of}
use Rattle.tables.specs.Tables.{sample_total, cell, sample_row, start_column, length_column, time_column, sample_cell, inside, layout_in, recording_in}
use Rattle.tables.proofs.Layouts.{entry_here, entry_none, entry_past, content_here, content_none, content_past}

module _ (t : List ℕ) (n : ℕ) where
  pub by_number : (P : Type 0) → (n ≡ 0 → P) → (sample_total t < n → P) → (0 < n → n ≤ sample_total t → P) → P
  by_number P f g h = by_bool (eqb n 0) (λ q. f (eqb-true n 0 q)) (λ q. by_bool (ltb (sample_total t) n)
      (λ r. g (ltb-true (sample_total t) n r)) (λ r. h (pos_of_ne-zero (eqb-false n 0 q)) (ltb-false (sample_total t) n r)))

  pub cell_none : (column : ℕ) → n ≡ 0 → sample_cell t n column ≡ 0
  unfolding sample_cell
  cell_none column e = rw (eq-eqb n 0 e)

  pub cell_past : (column : ℕ) → sample_total t < n → sample_cell t n column ≡ 0
  unfolding sample_cell
  cell_past column h = by_bool (eqb n 0) (λ q. rw q) (λ q. rw (q, lt-ltb (sample_total t) n h))

  pub cell_here : (column : ℕ) → 0 < n → n ≤ sample_total t → sample_cell t n column ≡ cell t (sample_row n) column
  unfolding sample_cell
  cell_here column p h = rw (ne_eqb n 0 (λ e. omega arith), le-ltb (sample_total t) n h)

  pub time_cell : time_of (layout_in t) n ≡ sample_cell t n time_column
  time_cell = by_number (time_of (layout_in t) n ≡ sample_cell t n time_column)
      (λ e. ap (λ x. x.time) (entry_none t n e) ∙ sym (cell_none time_column e))
      (λ h. ap (λ x. x.time) (entry_past t n h) ∙ sym (cell_past time_column h))
      (λ p h. ap (λ x. x.time) (entry_here t n p h) ∙ sym (cell_here time_column p h))

-- no bytes lie in every bundle
inside_none : (b : List ℕ) → inside b 0 0 ≡ []
unfolding inside
inside_none b = by_bool (0 ≤? length b) (λ q. rw q) (λ q. rw q)

module _ (b t : List ℕ) (n : ℕ) where
  pub content_cells : content_of (recording_in b t) n ≡ inside b (sample_cell t n start_column) (sample_cell t n length_column)
  content_cells = by_number t n (content_of (recording_in b t) n ≡ inside b (sample_cell t n start_column) (sample_cell t n length_column))
      (λ e. content_none b t n e ∙ rw (cell_none t n start_column e, cell_none t n length_column e) (sym (inside_none b)))
      (λ h. content_past b t n h ∙ rw (cell_past t n start_column h, cell_past t n length_column h) (sym (inside_none b)))
      (λ p h. content_here b t n p h ∙ rw (cell_here t n start_column p h, cell_here t n length_column p h))
