-- What `line_of` reads of an audit, in plain facts, in which the promises of proofs/Promises are stated.
--
--   line_read out r n  what line n of out says of sample n, by the sample's length
--   LineHolds r n l    what holds of sample n where its line says l: one of three
use Rattle.std.specs.Prelude.{ℕ, ◌<◌, ◌≡◌, List, length}
use Rattle.words.specs.Refusals.{refused, ok}
use Rattle.bundles.specs.Recordings.{Recording, content_of}
use Rattle.resolution_rules.specs.Resolving.{delivered, judged}
use Rattle.numbers.specs.declared.Refusal.{Refusal}
use Rattle.audit_lines.specs.Lines.{line_there, line_says}
use Rattle.audit_lines.specs.declared.Line as line
use Rattle.audit_lines.specs.declared.Line.TheVariants.{Passed, Empty, Refused}

abbrev pub line_read : List ℕ → Recording → ℕ → line.Line
line_read out r n = line_says (line_there out n) (length (content_of r n))

module _ (r : Recording) (n : ℕ) where
  pub data LineHolds : line.Line → Type 0 where
    -- bytes, and the whole length good: as many units as are delivered
    passed : 0 < length (content_of r n) → judged r n ≡ ok tt → LineHolds (Passed (length (delivered r n)))
    -- no bytes
    empty : length (content_of r n) ≡ 0 → LineHolds Empty
    -- 14 to 28, at a place in the sample
    bad : (f : Refusal) → judged r n ≡ refused f.number f.place.0 → LineHolds (Refused f)
