-- Request [14] of document 02, 'Audit speed', as far as theorems can say it: 'no named sample needs checking anew for each
-- extractor. Lines and tally stay as they are.' The proofs stand in crates/mark_rules, crates/marks and crates/verdicts. Assumes
-- nothing.
--
--   WalkState               what a walk over all units of a sample knows: its place; the end of the last aggregator that it met;
--                           how many units it has met besides aggregators, their bytes, how many of them are extractors
--   state_at x d            the state when it first stands at d or past it (crates/mark_rules/specs/States)
--   reach_from x d n s      the state after at most n steps from s, fewer if it stands at d or past it before
--   UnitBorder x d          d is the start of a unit, top-level or included, or the end of the sample (copies/specs/Flat)
--   copy_between z o n a e  26 to 28 of an extractor with data_offset o and data_length n that names z, or how many units and
--                           bytes it copies, by the states a at its start and e at its end (mark_rules/specs/Amounts)
--   copy_by z rows base o n the same by rows of numbers (marks/specs/Marks); the public function `copy_of` of crates/marks answers
--                          with it, for any rows
--   block, row_size      1,280 bytes; the five numbers of a row
--   marks z base rows    the rows with the states of z at the ends of its blocks; `mark` leaves these
--   copy_fault, copied   25 to 28; the units in a copy: the rules (copies/specs/Copies)
--   with_judgements b t  a table with the judgement of every sample kept beside it; `judge_all` of crates/verdicts leaves it
--
-- That lines and tally stay is said by what stays by text: the audit's definition and contract, Demands (`line_each`,
-- `tally_counts`, and what refuses a sample), Contents and Request01 to Request05. How long a call takes is measured, and no
-- theorem shuts out a slow program: what is said here is what the code goes by, that a state is less than a block of steps from
-- the mark before it (`few_steps`), and that by two states an extractor is answered, whatever the sample named holds.
use Rattle.std.specs.Prelude.{ℕ, ◌+◌, ◌*◌, ◌/◌, ◌%◌, ◌≤◌, ◌<◌, ◌≡◌, refl, List, [], ◌∷◌, map, ◌↔◌, length, Err, Ok, Result}
use Rattle.words.specs.Tests.{◌<?◌}
use Rattle.words.specs.Refusals.{refused, ok}
use Rattle.words.specs.Lists.{keep, sum}
use Rattle.words.specs.Bytes.{big}
use Rattle.numbers.specs.declared.Kind.TheVariants.{Svc}
use Rattle.numbers.specs.declared.LengthSize.TheVariants.{One}
use Rattle.units.specs.Units.{Sample, end, size, type, is_extractor}
use Rattle.units.specs.Aggregators.{units}
use Rattle.samples.specs.Check.{check}
use Rattle.copies.specs.Copies.{without_aggregators, copy_end, copied, copy_fault}
use Rattle.copies.specs.Flat.{UnitBorder}
use Rattle.bundles.specs.Limits.{bundle_most}
use Rattle.bundles.specs.Recordings.{sample_count}
use Rattle.tables.specs.Tables.{layout_in, recording_in, table_most, kept_count_in}
use Rattle.resolution_rules.specs.Resolving.{delivered, judged}
use Rattle.mark_rules.specs.States.{state_step, reach_from, reach, state_at}
use Rattle.mark_rules.specs.Amounts.{between, copy_between}
use Rattle.mark_rules.proofs.States as states
use Rattle.mark_rules.proofs.Standing as standing
use Rattle.mark_rules.proofs.Counts as counting
use Rattle.mark_rules.proofs.Copying as copying
use Rattle.marks.specs.Marks.{block, row_size, marks, copy_by}
use Rattle.marks.proofs.Marking as marking
use Rattle.marks.proofs.Copying as marked
use Rattle.verdicts.specs.Kept.{verdict_in, with_judgements}
use Rattle.verdicts.proofs.Keeping as keeping
use Rattle.mark_rules.specs.declared.CopyAmount.{CopyAmount}

-- Any bytes: going on from a state that was kept gives what going from the front gives, and from the last mark at or before a
-- place the walk comes to it in less steps than a block has bytes
module _ (x : Sample) where
  pub goes_on : (c d : ℕ) → c ≤ d → reach x d (state_at x c) ≡ state_at x d
  goes_on = states.state_on x

  pub few_steps : (d : ℕ) → state_at x d ≡ reach_from x d (d % block) (state_at x (d / block * block))
  few_steps = marking.few_steps x

-- A well-formed sample: the walk stands just where units start and at the end, and its state there counts the units before
module _ (x : Sample) (formed : check x ≡ ok tt) where
  pub stands : (d : ℕ) → d ≤ end x → ((state_at x d).place ≡ d) ↔ UnitBorder x d
  stands d h = (standing.state_border x formed d h, standing.border_state x formed d)

  pub counts : (d : ℕ) → UnitBorder x d → let before = keep (λ q. q <? d) (without_aggregators x (units x)) in
      ((state_at x d).count ≡ length before)
      × ((state_at x d).bytes ≡ sum (map (size x) before))
      × ((state_at x d).extractors ≡ length (keep (is_extractor x) before))
  counts = counting.state_counts x formed

  -- An extractor is answered by two states: refused as the rules say, or its copy counted
  module _ (o n : ℕ) where
    pub copy_refused : (copy_fault x o n ≡ 0 → ⊥) →
        copy_between x o n (state_at x o) (state_at x (copy_end x o n)) ≡ Err (copy_fault x o n)
    copy_refused = copying.states_refused x formed o n

    pub copy_counted : copy_fault x o n ≡ 0 →
        copy_between x o n (state_at x o) (state_at x (copy_end x o n))
        ≡ Ok (record { count = length (copied x o n); bytes = sum (map (size x) (copied x o n)) })
    copy_counted = copying.states_counted x formed o n

    -- by the rows that hold its marks, wherever they stand
    pub copy_by_marks : (base : ℕ) (rows : List ℕ) → end x ≤ bundle_most → (base + end x / block) * row_size ≤ length rows →
        copy_by x (marks x base rows) base o n ≡ copy_between x o n (state_at x o) (state_at x (copy_end x o n))
    copy_by_marks = marked.marks_copy x formed o n

-- All samples of a bundle are judged in one call: beside each its judgement is kept, 14 to 28 and the place, or how many units it
-- delivers; and the table says what it said
module _ (b t : List ℕ) where
  pub says_the_same : recording_in b (with_judgements b t) ≡ recording_in b t
  says_the_same = keeping.all_recording b t

  module _ (short : length b ≤ bundle_most) (room : table_most ≤ length t)
      (n : ℕ) (some : 0 < n) (there : n ≤ sample_count (layout_in t)) where
    pub refused_kept : (m p : ℕ) → judged (recording_in b t) n ≡ refused m p →
        verdict_in (kept_count_in (with_judgements b t) n) ≡ refused m p
    refused_kept = keeping.refused_kept b t short room n some there

    pub units_kept : judged (recording_in b t) n ≡ ok tt →
        verdict_in (kept_count_in (with_judgements b t) n) ≡ ok (length (delivered (recording_in b t) n))
    units_kept = keeping.units_kept b t short room n some there

-- In numbers: M8's and M7's samples of document 01, SVC, L = 1, and an extractor alone
abbrev bytes_8 : Sample
bytes_8 = record { kind = Svc; length_size = One; content = 5 ∷ 126 ∷ 128 ∷ 0 ∷ 3 ∷ 3 ∷ 2 ∷ 101 ∷ 136 ∷ [] }

abbrev bytes_7 : Sample
bytes_7 = record { kind = Svc; length_size = One; content = 8 ∷ 126 ∷ 128 ∷ 0 ∷ 3 ∷ 0 ∷ 2 ∷ 101 ∷ 136 ∷ [] }

abbrev extractor_alone : Sample
extractor_alone = record { kind = Svc; length_size = One; content = 8 ∷ 127 ∷ 128 ∷ 0 ∷ 3 ∷ 1 ∷ 0 ∷ 0 ∷ 0 ∷ [] }

abbrev told : Sample → ℕ → ℕ → Result CopyAmount ℕ
told z o n = copy_between z o n (state_at z o) (state_at z (copy_end z o n))

abbrev units_of : ℕ → ℕ → Result CopyAmount ℕ
units_of count bytes = Ok (record { count = count; bytes = bytes })

-- M9 and its neighbours: data_offset 0 with data_length 0, 6, 9 and 7; 1; from M7's included unit at 6 with 0, 3 and 4; 28
pub in_numbers :
    (state_at bytes_8 9 ≡ record { place = 9; until = 6; count = 1; bytes = 2; extractors = 0 })
    × (state_at bytes_7 3 ≡ record { place = 6; until = 9; count = 0; bytes = 0; extractors = 0 })
    × (told bytes_8 0 0 ≡ units_of 1 2) × (told bytes_8 0 6 ≡ units_of 0 0) × (told bytes_8 0 9 ≡ units_of 1 2)
    × (told bytes_8 0 7 ≡ Err 27) × (told bytes_8 1 0 ≡ Err 26)
    × (told bytes_7 6 0 ≡ units_of 1 2) × (told bytes_7 6 3 ≡ units_of 1 2) × (told bytes_7 6 4 ≡ Err 27)
    × (told extractor_alone 0 0 ≡ Err 28)
unfolding state_at reach_from state_step copy_between between copy_end size type big
in_numbers = (refl, refl, refl, refl, refl, refl, refl, refl, refl, refl, refl)
