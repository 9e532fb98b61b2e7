-- The loop's invariant: the entries of the samples so far are written. Assumes nothing.
use Rattle.tables.specs.Tables.{recording_in}
use Rattle.naming_list.proofs.Listings.{Putting}
use Rattle.naming_list.proofs.put_list.Given as goal

abbrev pub invariant-loop-n : goal.invariant-loop-n
invariant-loop-n l = Putting (recording_in l.b l.t) l.s.0 l.initial.out l.n l.at l.out
