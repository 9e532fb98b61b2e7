-- Marks: the state of the walk over all units of a sample (mark_rules/specs/States) at the end of each block of its bytes, in rows of five
-- numbers. Everything is said of any rows. A row of zeros, and one past the end of the rows, is the state before the first unit.
--
--   block, row_size            the bytes of a block; the numbers of a row
--   number_limit               numbers of a row are kept below it
--   kept_number, row_of s      a number as it is kept, in 32 bits; a state as a row
--   state_in rows i            the state that row i says
--   marks_upto x base rows n   the rows with the first n marks of x, from row base on
--   marks x base rows          with all of them
--   state_by x rows base d     the state at d, gone to from the last mark at or before d
--   end_state x rows base o n  the state at the end of a copy
--   copy_by x rows base o n    what an extractor with data_offset o and data_length n copies of x, by the states at its start and its end
--   Marked x base rows         the rows from base on say the states of x at the ends of its blocks
use Rattle.std.specs.Prelude.{ℕ, zero, suc, ◌+◌, ◌-◌, ◌*◌, ◌/◌, ◌%◌, ◌≤◌, ◌≡◌, List, [], ◌∷◌, ◌&&◌, not, get_or, Result}
use Rattle.words.specs.Tests.{◌≡?◌, pick}
use Rattle.words.specs.Buffers.{put}
use Rattle.units.specs.Units.{Sample, end, is_aggregator}
use Rattle.copies.specs.Copies.{copy_end}
use Rattle.mark_rules.specs.declared.WalkState.{WalkState}
use Rattle.mark_rules.specs.States.{front, state_step, reach, state_at}
use Rattle.mark_rules.specs.Amounts.{copy_between}
use Rattle.mark_rules.specs.declared.CopyAmount.{CopyAmount}

abbrev pub block : ℕ
block = 1280

abbrev pub row_size : ℕ
row_size = 5

-- 2 to the 32nd; the numbers of a state of any sample in a bundle are smaller
abbrev pub number_limit : ℕ
number_limit = 4294967296

abbrev pub kept_number : ℕ → ℕ
kept_number n = n % number_limit

abbrev pub row_of : WalkState → List ℕ
row_of s =
    kept_number s.place ∷ kept_number s.until ∷ kept_number s.count ∷ kept_number s.bytes ∷ kept_number s.extractors ∷ []

unfoldable pub state_in : List ℕ → ℕ → WalkState
state_in rows i = record {
  place = get_or rows (i * row_size) 0;
  until = get_or rows (i * row_size + 1) 0;
  count = get_or rows (i * row_size + 2) 0;
  bytes = get_or rows (i * row_size + 3) 0;
  extractors = get_or rows (i * row_size + 4) 0;
}

module _ (x : Sample) where
  -- the first n marks, at the ends of the first n blocks
  unfoldable pub marks_upto : ℕ → List ℕ → ℕ → List ℕ
  marks_upto base rows zero = rows
  marks_upto base rows (suc n) = put (marks_upto base rows n) ((base + n) * row_size) (row_of (state_at x (suc n * block)))

  abbrev pub marks : ℕ → List ℕ → List ℕ
  marks base rows = marks_upto base rows (end x / block)

  -- in the first block from the front
  unfoldable pub state_by : List ℕ → ℕ → ℕ → WalkState
  state_by rows base d = reach x d (pick (d / block ≡? 0) front (state_in rows (base + (d / block - 1))))

  -- after a unit that is no aggregator the walk is one step on
  abbrev pub end_state : List ℕ → ℕ → ℕ → ℕ → WalkState
  end_state rows base o n =
      pick ((n ≡? 0) && not (is_aggregator x o)) (state_step x (state_by rows base o)) (state_by rows base (copy_end x o n))

  unfoldable pub copy_by : List ℕ → ℕ → ℕ → ℕ → Result CopyAmount ℕ
  copy_by rows base o n = copy_between x o n (state_by rows base o) (end_state rows base o n)

pub record Marked (x : Sample) (base : ℕ) (rows : List ℕ) : Type 0 where
  pub says : (i : ℕ) → (i + 1) * block ≤ end x → state_in rows (base + i) ≡ state_at x ((i + 1) * block)
