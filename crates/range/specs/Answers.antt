-- What the answers of the code say.
--
--   counts_of      samples of a range resolved: how many bytes of output and of lines are written
use Rattle.std.specs.Prelude.{ℕ, List, [], ◌∷◌, Err, Ok, Result}
use Rattle.words.specs.Refusals.{Answer, refused, ok}
use Rattle.range.specs.declared.Counts.{Counts}
use Rattle.numbers.specs.declared.Refusal.{Refusal}

abbrev pub counts_of : Result Counts Refusal → Answer (List ℕ)
counts_of (Err f) = refused f.number f.place.0
counts_of (Ok c) = ok (c.output ∷ c.lines ∷ [])
