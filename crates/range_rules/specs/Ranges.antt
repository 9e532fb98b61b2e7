-- Samples first to last of a bundle in one call (02, [6]): resolved into one buffer, with a line of the audit for each.
--
--   lines_of r ns       the audit's lines of the samples ns, in order
--   range r first last  the call on a recording: 30, or what resolving gives for each, joined, and their lines
--   range_call reader b first last room lines_room
--                          the call on a bundle, with room for the output and for the lines: 1 to 13, 30, 29, or both
use Rattle.std.specs.Prelude.{ℕ, List, [], ◌∷◌}
use Rattle.words.specs.Refusals.{Answer, ok}
use Rattle.words.specs.Lists.{each}
use Rattle.words.specs.Buffers.{within_all}
use Rattle.bundles.specs.Recordings.{Recording}
use Rattle.bundles.specs.Readers.{Reader}
use Rattle.resolution_rules.specs.Calls.{on_bundle}
use Rattle.resolution_rules.specs.Ranges.{between, on_range, joined}
use Rattle.audit_rules.specs.Auditing.{line_of}

module _ (r : Recording) where
  unfoldable pub lines_of : List ℕ → List ℕ
  lines_of ns = each (line_of r) ns

  unfoldable pub range : ℕ → ℕ → Answer (List (List ℕ))
  range first last = let ns = between first last in on_range r first last (ok (joined r ns ∷ lines_of ns ∷ []))

unfoldable pub range_call : Reader → List ℕ → ℕ → ℕ → ℕ → ℕ → Answer (List (List ℕ))
range_call reader b first last room lines_room = within_all (room ∷ lines_room ∷ []) (on_bundle reader b (λ r. range r first last))
