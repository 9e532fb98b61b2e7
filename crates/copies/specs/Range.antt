-- Where a copy ends, for code that goes over it unit by unit, on any bytes.
--
--   capped e p         p, or e where p lies past it
--   copy_end_in z o n  where the copy ends, or the end of the sample where it would end past it
use Rattle.std.specs.Prelude.{ℕ}
use Rattle.words.specs.Tests.{◌<?◌, ◌when◌else◌}
use Rattle.units.specs.Units.{Sample, end}
use Rattle.copies.specs.Copies.{copy_end}

unfoldable pub capped : ℕ → ℕ → ℕ
capped e p = e when e <? p else p

unfoldable pub copy_end_in : Sample → ℕ → ℕ → ℕ
copy_end_in z o n = capped (end z) (copy_end z o n)
