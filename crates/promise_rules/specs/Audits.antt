-- The audit in plain facts, as its lines stand in the lent buffer (01, 'Audit and naming list').
--
--   LineIn out n m p delivered line n, 13 bytes: the refusal m in byte 0, the place p in bytes 1 to 4, the units in bytes 5 to 12
--   SampleSays r n out         what line n says of sample n: one of three
--   TallyOf r out t            the tally t counts what the lines say
use Rattle.std.specs.Prelude.{ℕ, ◌+◌, ◌-◌, ◌*◌, ◌<◌, ◌≡◌, ◌&&◌, not, List, length}
use Rattle.words.specs.Tests.{◌≡?◌}
use Rattle.words.specs.Lists.{keep, upto}
use Rattle.words.specs.Bytes.{big}
use Rattle.bundles.specs.Recordings.{Recording, sample_count, content_of}
use Rattle.resolution_rules.specs.Resolving.{Span}
use Rattle.tally.specs.declared.Tally.{Tally}
use Rattle.promise_rules.specs.Resolving.{GoodSample, Resolved}
use Rattle.promise_rules.specs.Refused.{SampleRefused}

pub record LineIn (out : List ℕ) (n m p delivered : ℕ) : Type 0 where
  pub refusal : big out (13 * (n - 1)) 1 ≡ m
  pub place : big out (13 * (n - 1) + 1) 4 ≡ p
  pub units : big out (13 * (n - 1) + 5) 8 ≡ delivered

pub data SampleSays (r : Recording) (n : ℕ) (out : List ℕ) : Type 0 where
  -- it has bytes and is good: as many units as it delivers
  passed : 0 < length (content_of r n) → (us : List Span) → Resolved r n us → LineIn out n 0 0 (length us) → SampleSays r n out
  -- it has no bytes, which is good
  empty : length (content_of r n) ≡ 0 → LineIn out n 0 0 0 → SampleSays r n out
  -- it is not good: its first refusal, 14 to 28, and where it is
  bad : (m p : ℕ) → (GoodSample r n → ⊥) → SampleRefused r n m p → LineIn out n m p 0 → SampleSays r n out

pub record TallyOf (r : Recording) (out : List ℕ) (t : Tally) : Type 0 where
  pub passed :
      t.passed
      ≡ length (keep (λ n. (big out (13 * (n - 1)) 1 ≡? 0) && not (length (content_of r n) ≡? 0)) (upto (sample_count r.layout)))
  pub empty :
      t.empty
      ≡ length (keep (λ n. (big out (13 * (n - 1)) 1 ≡? 0) && (length (content_of r n) ≡? 0)) (upto (sample_count r.layout)))
  pub refused : t.refused ≡ length (keep (λ n. not (big out (13 * (n - 1)) 1 ≡? 0)) (upto (sample_count r.layout)))
  pub all : t.passed + t.empty + t.refused ≡ sample_count r.layout
