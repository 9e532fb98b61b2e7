-- The table of a recording: which numbers are written over a lent table t. All others stay as they were. The recording is what a reader
-- makes of a bundle, with where in the bundle each sample's bytes start.
--
--   write_rows t row cells n  the rows of 1 to n over t, the first of them at a row
--   count_cells y             the counts
--   track_cells y k           of track k: its kind, its length size, how many samples the tracks before it have
--   reference_cells y i       of reference i: from-track, to-track
--   sample_cells r starts n   of sample n: its decode time, where its bytes start, how many they are
--   table_of r starts t       the whole table
--   needed r                  how many numbers the table of a recording needs
--   held room a               the answer a, but 29 at 0 where its recording's table needs more than the room
--   filling reader b room     the answer: a refusal, or done
--   table_after reader b t    what is left in t: t itself after a refusal
use Rattle.std.specs.Prelude.{ℕ, ◌*◌, List, [], ◌∷◌, length, Err, Ok, Result}
use Rattle.words.specs.Tests.{◌<?◌}
use Rattle.words.specs.RefusalNumbers.{output_too_long}
use Rattle.words.specs.Refusals.{◌if◌, Answer, refused, ok, ◌at_place◌, ◌and_then◌}
use Rattle.words.specs.Lists.{keep, each, nth, upto}
use Rattle.words.specs.Buffers.{write_at}
use Rattle.numbers.specs.Sizes.{in_bytes}
use Rattle.numbers.specs.Kinds.{number_of_kind}
use Rattle.bundles.specs.Recordings.{Layout, Recording, no_track, no_reference, sample_count, time_of, content_of}
use Rattle.bundles.specs.Readers.{Reader}
use Rattle.tables.specs.Tables.{columns, counts_row, track_row, reference_row, sample_row, table_size}
use Rattle.numbers.specs.declared.Refusal.{Refusal}

unfoldable pub write_rows : List ℕ → ℕ → (ℕ → List ℕ) → ℕ → List ℕ
write_rows t row cells n = write_at t (row * columns) (each cells (upto n))

module _ (y : Layout) where
  abbrev pub count_cells : List ℕ
  count_cells = length y.tracks ∷ length y.references ∷ sample_count y ∷ 0 ∷ []

  -- how many samples the tracks before track k have
  unfoldable pub samples_before : ℕ → ℕ
  samples_before k = length (keep (λ e. e.track <? k) y.entries)

  abbrev pub track_cells : ℕ → List ℕ
  track_cells k =
      let a = nth y.tracks k no_track in
      number_of_kind a.kind ∷ in_bytes a.length_size ∷ samples_before k ∷ 0 ∷ []

  abbrev pub reference_cells : ℕ → List ℕ
  reference_cells i = let f = nth y.references i no_reference in f.from ∷ f.to ∷ 0 ∷ 0 ∷ []

module _ (r : Recording) (starts : ℕ → ℕ) where
  abbrev pub sample_cells : ℕ → List ℕ
  sample_cells n = time_of r.layout n ∷ starts n ∷ length (content_of r n) ∷ 0 ∷ []

  unfoldable pub table_of : List ℕ → List ℕ
  table_of t =
      let y = r.layout in
      let counts = write_at t (counts_row * columns) (count_cells y) in
      let tracks = write_rows counts (track_row 1) (track_cells y) (length y.tracks) in
      let references = write_rows tracks (reference_row 1) (reference_cells y) (length y.references) in
      write_rows references (sample_row 1) sample_cells (sample_count y)

abbrev pub needed : Recording → ℕ
needed r = table_size (sample_count r.layout)

abbrev pub held : ℕ → Answer Recording → Answer Recording
held room (refused n p) = refused n p
held room (ok r) = (output_too_long if room <? needed r) at_place 0 and_then ok r

abbrev pub fill_answer : Answer Recording → Result (Unit {0}) Refusal
fill_answer (refused n p) = Err (record { number = n; place = record { 0 = p } })
fill_answer (ok r) = Ok tt

abbrev pub fill_table : Answer Recording → (ℕ → ℕ) → List ℕ → List ℕ
fill_table (refused n p) starts t = t
fill_table (ok r) starts t = table_of r starts t

module _ (reader : Reader) (b : List ℕ) where
  unfoldable pub filling : ℕ → Result (Unit {0}) Refusal
  filling room = fill_answer (held room (reader.means b))

  unfoldable pub table_after : List ℕ → List ℕ
  table_after t = fill_table (held (length t) (reader.means b)) (reader.content_at b) t
