-- A range of samples in one call (02, [6]), in plain facts. `Joins` and `Gives`, the output joined from what the calls for its samples
-- give, stand in crates/range_rules/specs/Rules.
--
--   Adds r n own line                              what sample n adds to the output, and its line: one of three
--   RangeOf r last n out ls                        what samples n, n + 1, .. last add, joined, and their lines, joined
--   SampleIn b r first last room n out ls          where what sample n adds stands in the output out and the lines ls
--                                                  of samples first to last
--   RangeRefused b first last room lines_room m p  with which number, and where, the call is refused
--   bench_with avc svc                             the bytes of B0 (01, 'The bench bundle and its neighbours') with these samples
--                                                  in its two tracks
--   slice, extractor                               those of B0
use Rattle.std.specs.Prelude.{ℕ, ◌+◌, ◌-◌, ◌*◌, ◌≤◌, ◌<◌, ◌≡◌, List, [], ◌∷◌, ◌++◌, ◌⊎◌, length, take, drop}
use Rattle.words.specs.Refusals.{ok}
use Rattle.words.specs.Lists.{each}
use Rattle.words.specs.Bytes.{bytes, part}
use Rattle.bundles.specs.Recordings.{Recording, sample_count, content_of}
use Rattle.bundles.specs.Readers.{first_layout}
use Rattle.resolution_rules.specs.Resolving.{Span}
use Rattle.audit_rules.specs.Auditing.{audit_call}
use Rattle.range_rules.specs.Rules.{Gives}
use Rattle.promise_rules.specs.BundleFaults.{BundleRefused}
use Rattle.promise_rules.specs.Resolving.{Resolved, after_length}
use Rattle.promise_rules.specs.Refused.{SampleRefused}

-- a line: the refusal in 1 byte, its place in 4, the units delivered in 8
pub data Adds (r : Recording) (n : ℕ) : List ℕ → List ℕ → Type 0 where
  -- it has bytes and is good: the units that it delivers, each after its length
  passed :
      0 < length (content_of r n) → (us : List Span) → Resolved r n us →
      Adds r n (each (after_length r) us) (bytes 1 0 ++ bytes 4 0 ++ bytes 8 (length us))
  -- it has no bytes, which is good: no bytes, and zeros
  empty : length (content_of r n) ≡ 0 → Adds r n [] (bytes 13 0)
  -- it is not good, 14 to 28: no bytes
  bad : (m p : ℕ) → SampleRefused r n m p → Adds r n [] (bytes 1 m ++ bytes 4 p ++ bytes 8 0)

pub data RangeOf (r : Recording) (last : ℕ) : ℕ → List ℕ → List ℕ → Type 0 where
  none : {n : ℕ} → last < n → RangeOf r last n [] []
  next :
      {n : ℕ} {own line out ls : List ℕ} → n ≤ last → Adds r n own line → RangeOf r last (n + 1) out ls →
      RangeOf r last n (own ++ out) (line ++ ls)

pub record SampleIn (b : List ℕ) (r : Recording) (first last room n : ℕ) (out ls : List ℕ) : Type 0 where
  pub own : List ℕ
  pub line : List ℕ
  pub adds : Adds r n own line
  -- its bytes stand between what the samples before it and those after it add, its line at 13 (n - first)
  pub before : List ℕ
  pub after : List ℕ
  pub stands : out ≡ before ++ (own ++ after)
  pub its_line : part ls (13 * (n - first)) 13 ≡ line
  pub earlier : RangeOf r (n - 1) first before (take (13 * (n - first)) ls)
  pub later : RangeOf r last (n + 1) after (drop (13 * (n + 1 - first)) ls)
  -- they are what the call that resolves it gives, with the same room; its line is line n of an audit
  pub gives : Gives first_layout b room n own
  pub audited : (enough : ℕ) (all : List ℕ) → audit_call first_layout b enough ≡ ok all → part all (13 * (n - 1)) 13 ≡ line

-- A refused sample refuses no call, so never 14 to 28. The lines have 13 bytes a sample.
pub data RangeRefused (b : List ℕ) (first last room lines_room : ℕ) : ℕ → ℕ → Type 0 where
  bundle : {m p : ℕ} → BundleRefused b m p → RangeRefused b first last room lines_room m p
  number :
      (r : Recording) → first_layout.means b ≡ ok r → (first ≡ 0) ⊎ ((sample_count r.layout < last) ⊎ (last < first)) →
      RangeRefused b first last room lines_room 30 0
  output :
      (r : Recording) (out ls : List ℕ) → first_layout.means b ≡ ok r → 0 < first → last ≤ sample_count r.layout → first ≤ last →
      RangeOf r last first out ls → room < length out → RangeRefused b first last room lines_room 29 0
  lines :
      (r : Recording) → first_layout.means b ≡ ok r → 0 < first → last ≤ sample_count r.layout → first ≤ last →
      lines_room < 13 * (last + 1 - first) → RangeRefused b first last room lines_room 29 0

abbrev pub bench_with : List ℕ → List ℕ → List ℕ
bench_with avc svc =
    0x02
    ∷ 0x00 ∷ 0x00 ∷ 0x07 ∷ 0x01 ∷ 0x42 ∷ 0x00 ∷ 0x1E ∷ 0xFC ∷ 0xE0 ∷ 0x00
    ∷ 0x01 ∷ 0x00 ∷ 0x07 ∷ 0x01 ∷ 0x53 ∷ 0x00 ∷ 0x1E ∷ 0xFC ∷ 0x00 ∷ 0x00
    ∷ 0x01 ∷ 0x02 ∷ 0x01
    ∷ 0x00 ∷ 0x02
    ∷ 0x01 ∷ bytes 8 0 ++ bytes 4 (length avc)
    ++ 0x02 ∷ bytes 8 0 ++ bytes 4 (length svc)
    ++ bytes 4 (length (avc ++ svc)) ++ avc ++ svc

abbrev pub slice : List ℕ
slice = 0x02 ∷ 0x65 ∷ 0x88 ∷ []

abbrev pub extractor : List ℕ
extractor = 0x08 ∷ 0x7F ∷ 0x80 ∷ 0x00 ∷ 0x03 ∷ 0x01 ∷ 0x00 ∷ 0x00 ∷ 0x00 ∷ []
