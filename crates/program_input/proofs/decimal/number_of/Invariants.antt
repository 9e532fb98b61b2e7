-- The loop's invariant: the digits before i are read (Reading). Assumes nothing.
use Rattle.program_input.proofs.Reading.{Read}
use Rattle.program_input.proofs.decimal.number_of.Given as goal

abbrev pub invariant-loop-c : goal.invariant-loop-c
invariant-loop-c l = Read l.s l.n l.c-index
