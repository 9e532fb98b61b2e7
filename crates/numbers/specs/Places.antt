-- A place as it is written in an audit line and in an entry of the naming list (01, 'Audit and naming list').
use Rattle.std.specs.Prelude.{ℕ}

-- a place, in bytes
abbrev pub place_size : ℕ
place_size = 4
