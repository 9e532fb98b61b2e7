-- The limits of a bundle b (01, 'The bundle'), and the refusals that every section shares: 2 and 3.
--
--   bundle_most                   the most bytes of a bundle
--   track_least, track_most       the fewest and the most tracks
--   reference_most, sample_most   the most references, the most samples
--   cut b p n                     2: fewer than n bytes from p on
--   count_fault b p n least most  2 or 3, of a count of n bytes at p
use Rattle.std.specs.Prelude.{ℕ, ◌+◌, List, length}
use Rattle.words.specs.Tests.{◌<?◌}
use Rattle.words.specs.RefusalNumbers.{bundle_cut, count_out_of_limits}
use Rattle.words.specs.Refusals.{◌if◌, ◌or_else◌}
use Rattle.words.specs.Bytes.{big}

-- the most bytes of a bundle: exactly so many are not too long
abbrev pub bundle_most : ℕ
bundle_most = 16777216

-- the fewest and the most tracks
abbrev pub track_least : ℕ
track_least = 1

abbrev pub track_most : ℕ
track_most = 16

-- the most references
abbrev pub reference_most : ℕ
reference_most = 64

-- the most samples
abbrev pub sample_most : ℕ
sample_most = 4096

module _ (b : List ℕ) where
  -- 2: fewer than n bytes from p on
  abbrev pub cut : ℕ → ℕ → ℕ
  cut p n = bundle_cut if length b <? p + n

  -- a count of n bytes at p: it is there (2), from least to most (3)
  unfoldable pub count_fault : ℕ → ℕ → ℕ → ℕ → ℕ
  count_fault p n least most =
      cut p n or_else
      count_out_of_limits if big b p n <? least or_else
      count_out_of_limits if most <? big b p n
