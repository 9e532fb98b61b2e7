-- What is known of the samples that a table gives with a bundle: a number for each sample, and rows of marks.
--
--   packing                     256
--   packed n v                  a number below packing and another in one
--   word_most                   no such number is larger
--   formed                      the first of them for a sample that is well formed; for another it is its refusal
--   Tells x f rows              what the number f says of the sample x: 0 nothing; formed, and the row of its first mark; its refusal and
--                               the place
--   Ready b t forms rows        the number of every sample tells so
--   Survey b t forms rows used  and the marks lie in the first used rows
--   Told x base old f new       sample x was checked, f tells so, and its marks, if any, went to the rows from base on
--   rows_most                   no more numbers than this are lent as rows, and so no more rows are in use
use Rattle.std.specs.Prelude.{ℕ, ◌+◌, ◌*◌, ◌/◌, ◌%◌, ◌≤◌, ◌<◌, ◌≡◌, List, length, get_or}
use Rattle.words.specs.Refusals.{ok, refused}
use Rattle.units.specs.Units.{Sample, end}
use Rattle.samples.specs.Check.{check}
use Rattle.tables.specs.Tables.{recording_in}
use Rattle.resolution_rules.specs.Resolving.{sample_of}
use Rattle.marks.specs.Marks.{block, row_size, state_in, Marked}

abbrev pub packing : ℕ
packing = 256

abbrev pub packed : ℕ → ℕ → ℕ
packed n v = n + v * packing

-- 2 to the 56th
abbrev pub word_most : ℕ
word_most = 72057594037927936

-- no refusal of a sample's form has this number
abbrev pub formed : ℕ
formed = 1

abbrev pub rows_most : ℕ
rows_most = 16777216

pub record Tells (x : Sample) (f : ℕ) (rows : List ℕ) : Type 0 where
  pub refusal : (f ≡ 0 → ⊥) → (f % packing ≡ formed → ⊥) → check x ≡ refused (f % packing) (f / packing)
  pub whole : f % packing ≡ formed → check x ≡ ok tt
  pub marked : f % packing ≡ formed → Marked x (f / packing) rows

module _ (b t forms rows : List ℕ) where
  abbrev pub Ready : Type 0
  Ready = (m : ℕ) → Tells (sample_of (recording_in b t) m) (get_or forms m 0) rows

  pub record Survey (used : ℕ) : Type 0 where
    pub tells : Ready
    pub below :
        (m : ℕ) → get_or forms m 0 % packing ≡ formed →
        get_or forms m 0 / packing + end (sample_of (recording_in b t) m) / block ≤ used
    pub room : used * row_size ≤ length rows

pub record Told (x : Sample) (base : ℕ) (old : List ℕ) (f : ℕ) (new : List ℕ) : Type 0 where
  pub tells : Tells x f new
  pub long : length new ≡ length old
  pub kept : (j : ℕ) → j < base → state_in new j ≡ state_in old j
  pub here : f % packing ≡ formed → (f / packing ≡ base) × ((base + end x / block) * row_size ≤ length new)
