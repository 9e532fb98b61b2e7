-- The rules of a range in plain facts, in which the promises of proofs/Promises are stated.
--
--   Joins P last n out             out is joined from what each of n, n + 1, .. last adds; P says what a number adds
--   Gives reader b room n x        by the call that resolves it, with room enough, sample n of the bundle b adds x: nothing if refused
--   InRange count first last       first to last are numbers of count: none of the reasons for 30
--   OutOfRange count first last    one of them
--   RangeGives                     when the call on a recording answers, and with what
--   RangeAnswers, RangeRefuses     the same of the call on a bundle; when it is refused
--   SameAnswers                    two calls returned the same number and place, or the same counts, and wrote the same bytes up to them
use Rattle.std.specs.Prelude.{ℕ, ◌+◌, ◌-◌, ◌*◌, ◌≤◌, ◌<◌, ◌≡◌, List, [], ◌∷◌, ◌++◌, ◌⊎◌, length, take}
use Rattle.words.specs.RefusalNumbers.{output_too_long, no_such_number}
use Rattle.words.specs.Refusals.{Answer, refused, ok}
use Rattle.bundles.specs.Recordings.{Recording, sample_count}
use Rattle.bundles.specs.Readers.{Reader}
use Rattle.resolution_rules.specs.Calls.{resolve_call}
use Rattle.resolution_rules.specs.Ranges.{between, joined}
use Rattle.audit_rules.specs.Auditing.{line_size}
use Rattle.range_rules.specs.Ranges.{lines_of}

module _ (P : ℕ → List ℕ → Type 0) (last : ℕ) where
  pub data Joins : ℕ → List ℕ → Type 0 where
    none : {n : ℕ} → last < n → Joins n []
    next : {n : ℕ} {x rest : List ℕ} → n ≤ last → P n x → Joins (n + 1) rest → Joins n (x ++ rest)

-- 29 says nothing of the sample, only that the room was too small
pub data Gives (reader : Reader) (b : List ℕ) (room n : ℕ) : List ℕ → Type 0 where
  output : {x : List ℕ} → resolve_call reader b n room ≡ ok x → Gives reader b room n x
  nothing : (m p : ℕ) → resolve_call reader b n room ≡ refused m p → (m ≡ output_too_long → ⊥) → Gives reader b room n []

pub record InRange (count first last : ℕ) : Type 0 where
  pub some : 0 < first
  pub there : last ≤ count
  pub order : first ≤ last

abbrev pub OutOfRange : ℕ → ℕ → ℕ → Type 0
OutOfRange count first last = (first ≡ 0) ⊎ ((count < last) ⊎ (last < first))

-- the call on the recording r: both outputs, and that they fit
pub record RangeGives (r : Recording) (first last room lines_room : ℕ) (outs : List (List ℕ)) : Type 0 where
  pub within : InRange (sample_count r.layout) first last
  pub writes : outs ≡ joined r (between first last) ∷ lines_of r (between first last) ∷ []
  pub fits : length (joined r (between first last)) ≤ room
  pub lines_fit : line_size * (last + 1 - first) ≤ lines_room

-- on the bundle b, with room for the output and for the lines: 1 to 13, 30, 29
module _ (reader : Reader) (b : List ℕ) (first last room lines_room : ℕ) where
  pub record RangeAnswers (outs : List (List ℕ)) : Type 0 where
    pub recording : Recording
    pub means : reader.means b ≡ ok recording
    pub gives : RangeGives recording first last room lines_room outs

  pub data RangeRefuses : ℕ → ℕ → Type 0 where
    bundle : {m p : ℕ} → reader.means b ≡ refused m p → RangeRefuses m p
    number :
        (r : Recording) → reader.means b ≡ ok r → OutOfRange (sample_count r.layout) first last → RangeRefuses no_such_number 0
    output :
        (r : Recording) → reader.means b ≡ ok r → InRange (sample_count r.layout) first last →
        room < length (joined r (between first last)) → RangeRefuses output_too_long 0
    lines :
        (r : Recording) → reader.means b ≡ ok r → InRange (sample_count r.layout) first last →
        lines_room < line_size * (last + 1 - first) → RangeRefuses output_too_long 0

-- what two calls returned, and what they left in the buffers lent for the output and the lines
pub record SameAnswers (a a' : Answer (List ℕ)) (out out' ls ls' : List ℕ) : Type 0 where
  pub answer : a ≡ a'
  pub bytes : (c d : ℕ) → a ≡ ok (c ∷ d ∷ []) → (take c out ≡ take c out') × (take d ls ≡ take d ls')
