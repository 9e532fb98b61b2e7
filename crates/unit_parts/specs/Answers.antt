-- What the code answers on a bundle b and any table t beside it.
--
--   parts_in b t n     where the units that sample n delivers stand, two numbers each
use Rattle.std.specs.Prelude.{ℕ, List}
use Rattle.tables.specs.Tables.{recording_in, start_in}
use Rattle.resolution_rules.specs.Resolving.{delivered}
use Rattle.resolution_rules.specs.Calls.{parts_by}

module _ (b t : List ℕ) (n : ℕ) where
  abbrev pub parts_in : List ℕ
  parts_in = parts_by (start_in t) (delivered (recording_in b t) n)
