-- What the steps of the writer promise one another.
use Rattle.std.specs.Prelude.{ℕ, length, None, Option, Some}
use Rattle.words.specs.Tests.{◌<?◌, pick}
use Rattle.numbers.specs.declared.Kind.{Kind}
use Rattle.record_rules.specs.Trailers.{ending}
use Rattle.record_rules.specs.declared.Trailer.{Trailer}
use Rattle.record_writer.specs.declared.Facts.{Facts}

-- n bytes into a buffer
abbrev pub room_for : ℕ → ℕ → Option ℕ
room_for n room = pick (room <? n) None (Some n)

-- the facts of a trailer at the end of a record of a kind and a profile, in numbers
abbrev pub facts_of : Kind → ℕ → Trailer → Facts
facts_of k profile t =
    record { head = length (ending t).head; sets = (ending t).sets; fits = (ending t).fits; belongs = (ending t).belongs k profile }
