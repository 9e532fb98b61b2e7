-- What the answer of a call that writes says: a refusal with its number and place, or how much was written.
use Rattle.std.specs.Prelude.{ℕ, Err, Ok, Result}
use Rattle.words.specs.Refusals.{Answer, refused, ok}
use Rattle.numbers.specs.declared.Refusal.{Refusal}

abbrev pub answer_of : Result ℕ Refusal → Answer ℕ
answer_of (Err r) = refused r.number r.place.0
answer_of (Ok n) = ok n
