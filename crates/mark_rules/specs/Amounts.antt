-- What an extractor copies of the sample z that it names, by its data_offset o and its data_length n, counted (01, 'Resolving'; 02, [4]).
--
--   copy_amount z o n       25 to 28, or how many units are copied and how many bytes they have
--   starts_by z o a         whether a copy may start at o, by the state a at o
--   stands_at_end o d a e   whether the walk stands at d as a copy from o may end, by the states a at o and e at d
--   ends_by z o n a e       whether it may end where it ends, by the states a at its start and e at its end
--   between a e             28, or what the walk has met from a to e
--   copy_between z o n a e  26 to 28, or the copy counted, by these states
use Rattle.std.specs.Prelude.{ℕ, ◌-◌, map, Bool, ◌&&◌, ◌||◌, length, Err, Ok, Result}
use Rattle.words.specs.Tests.{◌≤?◌, ◌<?◌, ◌≡?◌, pick}
use Rattle.words.specs.RefusalNumbers.{bad_data_offset, bad_data_length, extractor_copied}
use Rattle.words.specs.Lists.{sum}
use Rattle.units.specs.Units.{Sample, end, size}
use Rattle.numbers.specs.Faults.{number_of_fault}
use Rattle.numbers.specs.declared.refusals.Fault.{Fault}
use Rattle.copies.specs.Copies.{copy_end, copied, copy_fault}
use Rattle.mark_rules.specs.declared.WalkState.{WalkState}
use Rattle.mark_rules.specs.declared.CopyAmount.{CopyAmount}

module _ (z : Sample) (o n : ℕ) where
  unfoldable pub copy_amount : Result CopyAmount ℕ
  copy_amount =
      let units = Ok (record { count = length (copied z o n); bytes = sum (map (size z) (copied z o n)) }) in
      pick (copy_fault z o n ≡? 0) units (Err (copy_fault z o n))

-- The walk stands at o: a unit starts there.
abbrev pub starts_by : Sample → ℕ → WalkState → Bool
starts_by z o a = (o <? end z) && (a.place ≡? o)

-- The walk stands where the copy ends, at d: from an included unit no later than where its aggregator ends, from a top-level one outside
-- any aggregator.
abbrev pub stands_at_end : ℕ → ℕ → WalkState → WalkState → Bool
stands_at_end o d a e = (e.place ≡? d) && pick (o <? a.until) (d ≤? a.until) (e.until ≤? d)

-- What data_length 0 takes ends on a border.
abbrev pub ends_by : Sample → ℕ → ℕ → WalkState → WalkState → Bool
ends_by z o n a e = (copy_end z o n ≤? end z) && ((n ≡? 0) || stands_at_end o (copy_end z o n) a e)

unfoldable pub between : WalkState → WalkState → Result CopyAmount ℕ
between a e =
    pick (e.extractors ≡? a.extractors)
    (Ok (record { count = e.count - a.count; bytes = e.bytes - a.bytes }))
    (Err extractor_copied)

unfoldable pub copy_between : Sample → ℕ → ℕ → WalkState → WalkState → Result CopyAmount ℕ
copy_between z o n a e =
    let counted = between a e in
    pick (starts_by z o a) (pick (ends_by z o n a e) counted (Err bad_data_length)) (Err bad_data_offset)
