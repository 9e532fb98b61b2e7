-- The search by halving (02, [5]), among numbers of which each passes a test or does not.
--
--   middle low high              of the numbers after low, up to high: the middle one, of two the earlier
--   ended low, one_round_more r  the result when none is left; a result with one round more
--   halving passes low high      the search when the numbers after low, up to high, are left: what it finds, and its rounds
--   halving_in n ..              the same, in at most n rounds
--   binary_digits n              how many binary digits n has; 0 has none
use Rattle.std.specs.Prelude.{ℕ, zero, suc, ◌+◌, ◌-◌, ◌/◌, ◌^◌, Bool}
use Rattle.words.specs.Tests.{◌<?◌, ◌≡?◌, pick, ◌when◌else◌}
use Rattle.links.specs.declared.SearchResult.{SearchResult}

abbrev pub middle : ℕ → ℕ → ℕ
middle low high = (low + high + 1) / 2

abbrev pub ended : ℕ → SearchResult
ended low = record { found = low; rounds = 0 }

abbrev pub one_round_more : SearchResult → SearchResult
one_round_more r = record { found = r.found; rounds = r.rounds + 1 }

module _ (passes : ℕ → Bool) where
  -- A round looks at the middle number: if it passes, those after it are left, else those before it. When none is left, low is what
  -- was found.
  unfoldable pub halving_in : ℕ → ℕ → ℕ → SearchResult
  halving_in zero low high = ended low
  halving_in (suc n) low high =
      let m = middle low high in
      let left = pick (passes m) (halving_in n m high) (halving_in n low (m - 1)) in
      pick (low <? high) (one_round_more left) (ended low)

  -- As many rounds as numbers are enough, since each takes one away at least: the search ends when none is left, and not before.
  abbrev pub halving : ℕ → ℕ → SearchResult
  halving low high = halving_in (high - low) low high

-- A number has one binary digit more than the number before it exactly if it is a power of two: 1, 2, 4, 8, ...
unfoldable pub binary_digits : ℕ → ℕ
binary_digits zero = 0
binary_digits (suc n) = let d = binary_digits n in suc d when suc n ≡? 2 ^ d else d
