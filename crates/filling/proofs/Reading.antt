-- A table that was filled from a bundle, by any reader of bundles. Assumes nothing.
--
--   table_recording, table_lays_out, table_ranges, table_starts, table_kept_counts  what the table says, for a recording that a table holds
--   held_room, held_short, held_same                                                a recording for whose table there is room, or none; room for any
--   untouched, refused_answer, done_answer                                          what the answer says
use Rattle.std.specs.Prelude.{Err, Ok, Result}
use Prim.Native.Nat.{ℕ, ◌+◌, ◌-◌, ◌≤◌, ◌<◌}
use mathlib.Core.Path.{◌≡◌, refl, ap, sym, ◌∙◌}
use mathlib.Core.List.{List}
use native.Mathlib.Omega.{arith}
use native.Mathlib.Nat.{pos_of_ne-zero}
use borrow.Author.Tests.{ltb-true, ltb-false, eqb-false, ne_eqb, le-ltb, lt-ltb}
use lib.Dec.{ltb, eqb}
use lib.ListN.{length}
use Rattle.words.specs.RefusalNumbers.{output_too_long}
use Rattle.words.specs.Refusals.{Answer, refused, ok}
use Rattle.words.proofs.Tests.{by_bool}
use Rattle.numbers.specs.declared.Refusal.{Refusal}
use Rattle.bundles.specs.Recordings.{Recording, sample_count, samples_in}
use Rattle.bundles.specs.Readers.{Reader}
use Rattle.tables.specs.Tables.{start_column, kept_count_column, cell, sample_total, sample_row, layout_in, recording_in, range_in, numbers_in, sample_cell, start_in, kept_count_in}
use Rattle.tables.proofs.Ranges.{range_samples}
use Rattle.filling.specs.Filling.{table_of, needed, held, fill_answer, fill_table, filling, table_after}
use Rattle.filling.proofs.Recording.{Tabled, filled, filled_is, filled_recording, sample_cell_lem, sample_total_lem}

pub held_room : (room : ℕ) (r : Recording) → needed r ≤ room → held room (ok r) ≡ ok r
held_room room r h = rw (le-ltb room (needed r) h)

pub held_short : (room : ℕ) (r : Recording) → room < needed r → held room (ok r) ≡ refused output_too_long 0
held_short room r h = rw (lt-ltb room (needed r) h)

held_fits : (room : ℕ) (r : Recording) → fill_answer (held room (ok r)) ≡ (Ok tt) → needed r ≤ room
held_fits room r e = by_bool (ltb room (needed r))
    (λ q. let g : fill_answer (refused output_too_long 0) ≡ (Ok tt) = rw (held_short room r (ltb-true _ _ q)) at e in let z : ◌≡◌ {A = ℕ} 0 1 = cc in absurd (omega arith))
    (λ q. ltb-false _ _ q)

-- a bundle that means a recording, and room for its table
module _ (reader : Reader) (b t : List ℕ) (r : Recording) (means_r : reader.means b ≡ ok r) (h : Tabled b r (reader.content_at b)) (done : filling reader b (length t) ≡ (Ok tt)) where
  fits : needed r ≤ length t
  unfolding filling
  fits = held_fits (length t) r (rw means_r at done)

  written : table_after reader b t ≡ table_of r (reader.content_at b) t
  unfolding table_after
  written = rw (means_r, held_room (length t) r fits)

  pub table_recording : recording_in b (table_after reader b t) ≡ r
  table_recording = rw written (filled_recording b t r (reader.content_at b) h fits)

  recording_layout : (s : List ℕ) → (recording_in b s).layout ≡ layout_in s
  unfolding recording_in
  recording_layout s = refl

  pub table_lays_out : layout_in (table_after reader b t) ≡ r.layout
  table_lays_out = sym (recording_layout (table_after reader b t)) ∙ ap (λ s. s.layout) table_recording

  pub table_ranges : (k : ℕ) → 0 < k → numbers_in (range_in (table_after reader b t) k) ≡ samples_in r.layout k
  table_ranges k g = sym (range_samples (table_after reader b t) k g) ∙ ap (λ y. samples_in y k) table_lays_out

  abbrev x : List ℕ
  x = filled b t r (reader.content_at b) h fits

  kept_cell : (n : ℕ) → 0 < n → n ≤ sample_count r.layout → cell x (sample_row n) kept_count_column ≡ 0
  kept_cell n g l =
      let e : n - 1 + 1 ≡ n = omega arith in
      rw e at (sample_cell_lem b t r (reader.content_at b) h fits (n - 1) kept_count_column (omega arith) (omega arith))

  start_cell : (n : ℕ) → 0 < n → n ≤ sample_count r.layout → cell x (sample_row n) start_column ≡ reader.content_at b n
  start_cell n g l =
      let e : n - 1 + 1 ≡ n = omega arith in
      rw e at (sample_cell_lem b t r (reader.content_at b) h fits (n - 1) start_column (omega arith) (omega arith))

  starts : (n : ℕ) → 0 < n → n ≤ sample_count r.layout → start_in x n ≡ reader.content_at b n
  unfolding sample_cell
  starts n g l =
      let s = sample_total_lem b t r (reader.content_at b) h fits in
      rw (ne_eqb n 0 (λ z. omega arith), le-ltb (sample_total x) n (omega arith)) (start_cell n g l)

  pub table_starts : (n : ℕ) → 0 < n → n ≤ sample_count r.layout → start_in (table_after reader b t) n ≡ reader.content_at b n
  table_starts n g l = rw (written, filled_is b t r (reader.content_at b) h fits) (starts n g l)

  kept_none : (n : ℕ) → kept_count_in x n ≡ 0
  unfolding sample_cell
  kept_none n =
      let s = sample_total_lem b t r (reader.content_at b) h fits in
      by_bool (eqb n 0) (λ q. rw q) (λ q. rw q
      (by_bool (ltb (sample_total x) n) (λ z. rw z)
      (λ z. rw z (let l = ltb-false (sample_total x) n z in kept_cell n (pos_of_ne-zero (eqb-false n 0 q)) (omega arith)))))

  pub table_kept_counts : (n : ℕ) → kept_count_in (table_after reader b t) n ≡ 0
  table_kept_counts n = rw (written, filled_is b t r (reader.content_at b) h fits) (kept_none n)

-- the table as it was
pub untouched : (a : Answer Recording) (starts : ℕ → ℕ) (t : List ℕ) (f : Refusal) → fill_answer a ≡ Err f → fill_table a starts t ≡ t
untouched (refused n p) starts t f e = refl
untouched (ok r) starts t f e = let z : ◌≡◌ {A = ℕ} 0 1 = cc in absurd (omega arith)

-- what the answer says
pub refused_answer : (a : Answer Recording) (f : Refusal) → fill_answer a ≡ Err f → a ≡ refused f.number f.place.0
refused_answer (refused n p) f e =
    let g : n ≡ f.number = ap (λ x. number_of x) e in
    let h : p ≡ f.place.0 = ap (λ x. place_of x) e in
    rw (g, h)
  where
    number_of : Result (Unit {0}) Refusal → ℕ
    number_of (Err r) = r.number
    number_of (Ok tt) = 0

    place_of : Result (Unit {0}) Refusal → ℕ
    place_of (Err r) = r.place.0
    place_of (Ok tt) = 0
refused_answer (ok r) f e = let z : ◌≡◌ {A = ℕ} 0 1 = cc in absurd (omega arith)

pub held_same : (room : ℕ) (a : Answer Recording) → ((r : Recording) → a ≡ ok r → needed r ≤ room) → held room a ≡ a
held_same room (refused n p) h = refl
held_same room (ok r) h = held_room room r (h r refl)

pub done_answer : (a : Answer Recording) (room : ℕ) → fill_answer (held room a) ≡ (Ok tt) → (r : Recording) × (a ≡ ok r)
done_answer (refused n p) room e = let z : ◌≡◌ {A = ℕ} 0 1 = cc in absurd (omega arith)
done_answer (ok r) room e = (r, refl)
