-- The rules of a copy in plain facts, for laws: what a copy without a refusal has. The laws are in proofs/Copied.
--
--   CopyRules z o n       none of 25 to 28 holds of the copy of z from data_offset o with data_length n
use Rattle.std.specs.Prelude.{ℕ, ◌≡◌, true, false}
use mathlib.Core.List.{Memᴰ}
use Rattle.words.specs.Refusals.{ok}
use Rattle.units.specs.Units.{Sample, is_extractor}
use Rattle.samples.specs.Check.{check}
use Rattle.copies.specs.Copies.{copy_starts, copy_ends, copied}

pub record CopyRules (z : Sample) (o n : ℕ) : Type 0 where
  -- 25, 26, 27, 28
  pub formed : check z ≡ ok tt
  pub starts : copy_starts z o ≡ true
  pub ends : copy_ends z o n ≡ true
  pub no_extractor : (q : ℕ) → Memᴰ q (copied z o n) → is_extractor z q ≡ false
