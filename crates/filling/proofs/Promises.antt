-- What is promised of a table t beside a bundle b of the first layout. `meaning b ≡ ok r` says that b is accepted and means the recording r;
-- `table_after first_layout b t` is the table that `fill_table` leaves, `filling first_layout b (length t)` its answer. Assumes nothing.
--
--   tabled                                    an accepted bundle's recording is one that a table holds
--   table_recording                           a table that was filled from an accepted bundle gives its recording
--   table_lays_out                            and says its layout
--   table_ranges                              and each track's samples
--   table_starts                              and where each sample starts in the bundle
--   table_kept_counts                         its kept counts are 0
--   table_refused                             after a refusal the table is as it was
--   table_room                                `table_most` numbers are enough for every accepted bundle
--   table_refuses, says_done                  what the answer of filling says: with `table_most` numbers a refusal is the bundle's own
--   never_short                               which is never 29
--   table_short, table_accepted, table_means  a table that was filled: the bundle is not too long, is accepted, and the table gives its recording
--   any_range                                 in any table, a track's range is the track's samples in the layout that the table says
--   any_kept_count                            in any table, a count that is kept changes nothing that the table says or gives
use Rattle.std.specs.Prelude.{Err, Ok}
use Prim.Native.Nat.{ℕ, suc, ◌+◌, ◌-◌, ◌≤◌, ◌<◌}
use mathlib.Core.Path.{◌≡◌, refl, sym}
use mathlib.Core.Bool.{false}
use mathlib.Core.List.{List, []}
use native.Mathlib.Omega.{arith}
use native.Mathlib.Numerals.{add-one}
use borrow.Author.Tests.{le-leb}
use lib.ListN.{length, get_or}
use Rattle.words.specs.RefusalNumbers.{output_too_long, bundle_refusals}
use Rattle.words.specs.Refusals.{refused, ok}
use Rattle.words.specs.Tests.{◌≡?◌}
use Rattle.words.specs.Lists.{◌∈◌, some}
use Rattle.words.proofs.Tests.{true_false}
use Rattle.words.proofs.Lists.{some_mem}
use Rattle.words.proofs.Positions.{part_length}
use Rattle.words.proofs.Splices.{take_sum}
use Rattle.numbers.specs.declared.Refusal.{Refusal}
use Rattle.bundles.specs.Limits.{bundle_most}
use Rattle.bundles.specs.Recordings.{Recording, sample_count, samples_in}
use Rattle.bundles.specs.Samples.{lengths}
use Rattle.bundles.specs.Bundles.{bundle_verdict, recording_of, meaning, content_at}
use Rattle.bundles.specs.Readers.{first_layout}
use Rattle.bundles.proofs.Promises.{means, refusals_within, limits_kept, samples_ordered, samples_tile, samples_all, sum_exact}
use Rattle.bundles.proofs.Checking.{refused_there}
use Rattle.tables.specs.Tables.{table_most, layout_in, recording_in, range_in, numbers_in, start_in, inside, kept_count_in, with_kept_count}
use Rattle.tables.proofs.Ranges.{range_samples}
use Rattle.tables.proofs.KeptCounts.{kept_count_layout, kept_count_recording}
use Rattle.filling.specs.Filling.{needed, held, filling, table_after}
use Rattle.filling.proofs.Recording.{Tabled}
use Rattle.filling.proofs.Reading as any

-- an accepted bundle's samples lie where they start
module _ (b : List ℕ) (r : Recording) (e : meaning b ≡ ok r) where
  sample_ends : (i : ℕ) → i < length (lengths b) → content_at b (suc i) + get_or (lengths b) i 0 ≤ length b
  unfolding content_at
  sample_ends i h =
      let s : suc i - 1 ≡ i = omega arith in
      let x = (sum_exact b r e).1 in
      let u = take_sum (lengths b) i h in
      rw s (omega arith)

  placed : (i : ℕ) → i < sample_count r.layout → inside b (content_at b (i + 1)) (length (get_or r.contents i [])) ≡ get_or r.contents i []
  unfolding inside
  placed i h =
      let w = samples_tile b r e in
      let c : i < length r.contents = rw (samples_all b r e) h in
      let l : i < length (lengths b) = rw (← w.count) c in
      let f = sample_ends i l in
      let p = w.placed i c in
      let n = part_length b (content_at b (suc i)) (get_or (lengths b) i 0) f in
      rw (add-one i, p, n, le-leb (content_at b (suc i) + get_or (lengths b) i 0) (length b) f)

  pub tabled : Tabled b r (content_at b)
  tabled = record { limits = limits_kept b r e; ordered = samples_ordered b r e; all = samples_all b r e; placed = placed }

-- an accepted bundle, and room for its table
module _ (b t : List ℕ) (r : Recording) (means_r : meaning b ≡ ok r) (done : filling first_layout b (length t) ≡ (Ok tt)) where
  pub table_recording : recording_in b (table_after first_layout b t) ≡ r
  table_recording = any.table_recording first_layout b t r means_r (tabled b r means_r) done

  pub table_lays_out : layout_in (table_after first_layout b t) ≡ r.layout
  table_lays_out = any.table_lays_out first_layout b t r means_r (tabled b r means_r) done

  pub table_ranges : (k : ℕ) → 0 < k → numbers_in (range_in (table_after first_layout b t) k) ≡ samples_in r.layout k
  table_ranges = any.table_ranges first_layout b t r means_r (tabled b r means_r) done

  pub table_starts : (n : ℕ) → 0 < n → n ≤ sample_count r.layout → start_in (table_after first_layout b t) n ≡ content_at b n
  table_starts = any.table_starts first_layout b t r means_r (tabled b r means_r) done

  pub table_kept_counts : (n : ℕ) → kept_count_in (table_after first_layout b t) n ≡ 0
  table_kept_counts = any.table_kept_counts first_layout b t r means_r (tabled b r means_r) done

-- the table as it was
pub table_refused : (b t : List ℕ) (f : Refusal) → filling first_layout b (length t) ≡ Err f → table_after first_layout b t ≡ t
unfolding table_after filling
table_refused b t f e = any.untouched (held (length t) (meaning b)) (content_at b) t f e

pub table_room : (b : List ℕ) (r : Recording) → meaning b ≡ ok r → needed r ≤ table_most
table_room b r e = let f = (limits_kept b r e).samples in omega arith

-- what the answer says
pub table_refuses : (b : List ℕ) (room : ℕ) (f : Refusal) → table_most ≤ room → filling first_layout b room ≡ Err f → meaning b ≡ refused f.number f.place.0
unfolding filling
table_refuses b room f h e =
    let same = any.held_same room (meaning b) (λ r g. let x = table_room b r g in omega arith) in
    any.refused_answer (meaning b) f (rw same at e)

says_refused : (b : List ℕ) (room : ℕ) (f : Refusal) → table_most ≤ room → filling first_layout b room ≡ Err f → bundle_verdict b ≡ refused f.number f.place.0
unfolding meaning
says_refused b room f h e = refused_there (recording_of b) (bundle_verdict b) (sym (table_refuses b room f h e))

pub says_done : (b : List ℕ) (room : ℕ) → filling first_layout b room ≡ (Ok tt) → bundle_verdict b ≡ ok tt
unfolding filling
says_done b room e = (means b (any.done_answer (meaning b) room e).1).0

not_room : output_too_long ∈ bundle_refusals → ⊥
unfolding some
not_room m = true_false false (some_mem (λ n. output_too_long ≡? n) bundle_refusals m refl) refl

pub never_short : (b : List ℕ) (room : ℕ) (f : Refusal) → table_most ≤ room → filling first_layout b room ≡ Err f → f.number ≡ output_too_long → ⊥
never_short b room f h e z =
    let n : f.number ∈ bundle_refusals = (refusals_within b f.number f.place.0 (says_refused b room f h e)).number in
    not_room (rw z at n)

-- any table
pub any_range : (t : List ℕ) (k : ℕ) → 0 < k → samples_in (layout_in t) k ≡ numbers_in (range_in t k)
any_range = range_samples

pub any_kept_count : (b t : List ℕ) (n v : ℕ) → (layout_in (with_kept_count t n v) ≡ layout_in t) × (recording_in b (with_kept_count t n v) ≡ recording_in b t)
any_kept_count b t n v = (kept_count_layout t n v, kept_count_recording b t n v)

-- a table that was filled: the bundle is accepted, the table gives its recording
module _ (b t : List ℕ) (done : filling first_layout b (length t) ≡ (Ok tt)) where
  pub table_accepted : meaning b ≡ ok (recording_of b)
  unfolding meaning
  table_accepted = rw (says_done b (length t) done)

  pub table_means : recording_in b (table_after first_layout b t) ≡ recording_of b
  table_means = table_recording b t (recording_of b) table_accepted done

pub table_short : (b : List ℕ) (room : ℕ) → filling first_layout b room ≡ (Ok tt) → length b ≤ bundle_most
unfolding filling
table_short b room done = let w = any.done_answer (meaning b) room done in (limits_kept b w.0 w.1).bytes
