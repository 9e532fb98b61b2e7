-- The length that stands before a unit in the output (01, 'Resolving').
--
--   length_before            the size of that length, 4
use Rattle.std.specs.Prelude.{ℕ}

-- the length that stands before a unit in the output, in bytes
abbrev pub length_before : ℕ
length_before = 4
