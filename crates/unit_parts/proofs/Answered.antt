-- Where the units of a sample stand, step by step as the code takes it. Assumes nothing.
--
--   sample_refused, room_refused, units_placed  by what is judged
--   parts_size, parts_fit                       how many numbers that is, and that they fit a word
--   parts_filled                                by a table that was filled
use Rattle.std.specs.Prelude.{Ok}
use Prim.Native.Nat.{ℕ, ◌*◌, ◌≤◌, ◌<◌}
use mathlib.Core.Path.{◌≡◌, ap, sym, ◌∙◌}
use mathlib.Core.List.{List}
use native.Mathlib.Omega.{arith}
use lib.ListN.{length}
use Rattle.words.specs.Refusals.{refused, ok}
use Rattle.words.specs.RefusalNumbers.{output_too_long}
use Rattle.words.specs.Buffers.{within}
use Rattle.words.proofs.Refusals.{by_verdict}
use Rattle.words.proofs.Buffers.{within_room, within_not}
use Rattle.bundles.specs.Limits.{bundle_most}
use Rattle.bundles.specs.Recordings.{Recording, sample_count}
use Rattle.bundles.specs.Bundles.{recording_of}
use Rattle.bundles.specs.Readers.{first_layout}
use Rattle.tables.specs.Tables.{recording_in, start_in}
use Rattle.filling.specs.Filling.{filling, table_after}
use Rattle.filling.proofs.Promises.{table_accepted, table_means, table_starts}
use Rattle.resolution_rules.specs.Resolving.{delivered, judged}
use Rattle.resolution_rules.specs.Calls.{parts_of, number_fault, parts_call}
use Rattle.resolution_rules.proofs.Calls.{by_count, number_there, parts_number, parts_sample, parts_good, parts_means}
use Rattle.resolution_rules.proofs.Good.{good_rules}
use Rattle.resolution_rules.proofs.Exactly.{delivered_there}
use Rattle.judging.specs.Steps.{judgement_in}
use Rattle.judging.specs.declared.Amount.{Amount}
use Rattle.judging.proofs.Judgements.{judged_refused, judged_good, judged_most}
use Rattle.unit_parts.specs.Answers.{parts_in}
use Rattle.unit_parts.proofs.Parts.{parts_length, parts_same}

module _ (b t : List ℕ) (n : ℕ) where
  -- 30, or 14 to 28
  pub sample_refused : length b ≤ bundle_most → {m q : ℕ} → judgement_in b t n ≡ refused m q → (room : ℕ) → within room (parts_of (recording_in b t) n (start_in t)) ≡ refused m q
  unfolding parts_of
  sample_refused h e room = ap (within room) (judged_refused b t n h e (ok (parts_in b t n)))

  module _ (room : ℕ) (g : number_fault (sample_count (recording_in b t).layout) n ≡ 0) (j : judged (recording_in b t) n ≡ ok tt) where
    good : parts_of (recording_in b t) n (start_in t) ≡ ok (parts_in b t n)
    good = let w = number_there _ _ g in parts_good (recording_in b t) n w.0 w.1 (start_in t) j

    pub room_refused : room < length (parts_in b t n) → within room (parts_of (recording_in b t) n (start_in t)) ≡ refused output_too_long 0
    room_refused h = rw good (within_not room (parts_in b t n) h)

    pub units_placed : length (parts_in b t n) ≤ room → within room (parts_of (recording_in b t) n (start_in t)) ≡ ok (parts_in b t n)
    units_placed h = rw good (within_room room (parts_in b t n) h)

  module _ (h : length b ≤ bundle_most) (a : Amount) (e : judgement_in b t n ≡ ok a) where
    pub parts_size : 2 * a.count ≡ length (parts_in b t n)
    parts_size = let c = (judged_good b t n h a e).1 in let l = parts_length (start_in t) (delivered (recording_in b t) n) in omega arith

    pub parts_fit : 2 * a.count ≤ 1125899906842624
    parts_fit = let m = judged_most b t n h a e in omega arith

-- by two tellings of where samples start that agree on the samples of the recording
starts_same : (r : Recording) (n : ℕ) (f g : ℕ → ℕ) → ((m : ℕ) → 0 < m → m ≤ sample_count r.layout → f m ≡ g m) → parts_of r n f ≡ parts_of r n g
starts_same r n f g e = by_count (sample_count r.layout) n
    (λ h. parts_number r n f h ∙ sym (parts_number r n g h))
    (λ h l. by_verdict (judged r n)
    (λ m p j. parts_sample r n h l f j ∙ sym (parts_sample r n h l g j))
    (λ j.
    parts_good r n h l f j
    ∙ ap ok (parts_same f g (delivered r n) (λ u k. let w = delivered_there r n (good_rules r n j) h l u k in e u.sample w.0 w.1))
    ∙ sym (parts_good r n h l g j)))

-- by the table that was filled
pub parts_filled : (b t : List ℕ) → filling first_layout b (length t) ≡ (Ok tt) → {s : List ℕ} → s ≡ table_after first_layout b t → (n room : ℕ) → within room (parts_of (recording_in b s) n (start_in s)) ≡ parts_call first_layout b n room
parts_filled b t done f n room =
    let a = table_accepted b t done in
    rw (f, table_means b t done)
    (ap (within room) (starts_same (recording_of b) n (start_in (table_after first_layout b t)) (first_layout.content_at b) (table_starts b t (recording_of b) a done))
    ∙ sym (parts_means first_layout b n room a))
