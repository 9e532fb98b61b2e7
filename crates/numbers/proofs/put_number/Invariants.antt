-- The loop's invariant: the last n - i bytes are written, and rest is what is left of v. Assumes nothing.
use Rattle.numbers.proofs.Laws.{Back}
use Rattle.numbers.proofs.put_number.Given as goal

abbrev pub invariant-loop-i : goal.invariant-loop-i
invariant-loop-i l = Back l.initial.out l.at l.n l.v l.i l.rest l.out
