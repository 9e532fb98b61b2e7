-- What the code's answers say.
use Rattle.std.specs.Prelude.{Err, Ok, Result}
use Rattle.words.specs.Refusals.{refused, ok, Verdict}
use Rattle.numbers.specs.declared.Refusal.{Refusal}

abbrev pub answer_of : Result (Unit {0}) Refusal → Verdict
answer_of (Err r) = refused r.number r.place.0
answer_of (Ok tt) = ok tt
