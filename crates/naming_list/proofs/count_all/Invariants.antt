-- The loop's invariant: the extractors of the samples so far are counted, and the count kept beside each sample tells how many stand in it. Assumes nothing.
use Rattle.naming_list.proofs.Listings.{Counting}
use Rattle.naming_list.proofs.count_all.Given as goal

abbrev pub invariant-loop-n : goal.invariant-loop-n
invariant-loop-n l = Counting l.b l.initial.t l.s.0 l.n l.count l.t
