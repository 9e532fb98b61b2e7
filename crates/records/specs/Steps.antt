-- What the steps of the reader answer one another.
use Rattle.std.specs.Prelude.{ℕ, List}
use Rattle.numbers.specs.declared.Kind.{Kind}
use Rattle.record_rules.specs.Read.{trailer_of, extensions_at, record_end}
use Rattle.records.specs.declared.Follow.{Follow}

-- what follows the picture sets of s
abbrev pub follow_of : Kind → List ℕ → Follow
follow_of k s = record { trailer = trailer_of k s; start = extensions_at k s; end = record_end k s }
