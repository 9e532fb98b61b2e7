-- 31 of the numbers, or the writer by their fields. Assumes nothing.
use mathlib.Core.Path.{ap}
use lib.ListN.{length}
use Rattle.std.proofs.lemmas.Result.{err_from_is_err_and}
use Rattle.words.specs.Buffers.{within}
use Rattle.words.proofs.Buffers.{refuse}
use Rattle.numbers.proofs.Faults.{place_none, place_fault}
use Rattle.record_numbers.proofs.Laws.{fault_enough, fault_refuses, fault_none}
use Rattle.record_numbers.proofs.writing.write_as.Goals as goal

pub returns-in_err-at_place : goal.returns-in_err-at_place
returns-in_err-at_place c =
    let a = c.args in
    let p = err_from_is_err_and c.from_residual.result c.from_residual.ensures.1 in
    rw (p.1, p.2) (refuse (ap (within (length a.out.now)) (fault_refuses a.k a.numbers.now a.sequences.now a.pictures.now a.extensions.now (place_fault c.numbers_fault.result 0 c.in_err-at_place.ensures c.numbers_fault.ensures))))

pub fields_from-f-requires : goal.fields_from-f-requires
fields_from-f-requires c = fault_enough _ _ (place_none c.numbers_fault.result 0 c.in_ok-at_place.ensures c.numbers_fault.ensures)

pub returns : goal.returns
returns c = let a = c.args in
    rw (fault_none a.k a.numbers.now a.sequences.now a.pictures.now a.extensions.now (place_none c.numbers_fault.result 0 c.in_ok-at_place.ensures c.numbers_fault.ensures), ← c.fields_from-f.ensures) c.write_as.ensures
