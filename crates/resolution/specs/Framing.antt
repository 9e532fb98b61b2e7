-- Delivered units, each after 4 bytes: its length, or a start code.
--
--   front_of f size    the number in the 4 bytes before a unit of a size
--   framed_unit f r u  a delivered unit after its 4 bytes
--   framed f r us      delivered units so
use Rattle.std.specs.Prelude.{ℕ, List, ◌++◌}
use Rattle.words.specs.Lists.{each}
use Rattle.words.specs.Bytes.{bytes}
use Rattle.bundles.specs.Recordings.{Recording}
use Rattle.copies.specs.Written.{length_before}
use Rattle.resolution_rules.specs.Resolving.{Span}
use Rattle.resolution_rules.specs.Calls.{span_bytes}
use Rattle.resolution.specs.declared.writing.Framing.{Framing}
use Rattle.resolution.specs.declared.writing.Framing.TheVariants.{Lengths, StartCodes}

-- a start code is 1 in 4 bytes
abbrev pub front_of : Framing → ℕ → ℕ
front_of Lengths size = size
front_of StartCodes size = 1

module _ (f : Framing) (r : Recording) where
  unfoldable pub framed_unit : Span → List ℕ
  framed_unit u = bytes length_before (front_of f u.size) ++ span_bytes r u

  unfoldable pub framed : List Span → List ℕ
  framed us = each framed_unit us
