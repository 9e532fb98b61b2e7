-- Each return is a case of the answer; nothing is written before the room is judged. Assumes nothing.
use Rattle.std.proofs.lemmas.Result.{err_from_is_err_and}
use native.Mathlib.Omega.{arith}
use mathlib.Core.Path.{◌≡◌, sym, ap, ◌∙◌}
use Prim.Native.Nat.{◌*◌, ◌≤◌}
use lib.ListN.{length}
use Rattle.words.proofs.Buffers.{refuse, accept}
use Rattle.bundles.specs.Recordings.{Recording, sample_count}
use Rattle.tables.specs.Tables.{recording_in}
use Rattle.resolution_rules.specs.Calls.{number_fault}
use Rattle.naming_list_rules.specs.Naming.{naming_list, list_bytes, list_entry_size}
use Rattle.naming_list_rules.proofs.Listing.{list_size_lem}
use Rattle.bundles.specs.Limits.{sample_most, bundle_most}
use Rattle.judging.proofs.Numbers.{no_fault, some_fault}
use Rattle.naming_list.proofs.Listings.{list_few, names_number, names_room, names_listed, counts_bad, counts_good}
use Rattle.naming_list.proofs.list_sample.Goals as goal
use Rattle.naming_list.proofs.list_sample.Goals.{After-slice_known-3-1, In_ok-check_number}

-- the number is good
sound : (c : In_ok-check_number) → number_fault (sample_count (recording_in c.args.b.now c.args.t.now).layout) c.args.s.0 ≡ 0
unfolding recording_in
sound c = no_fault _ (rw c.sample_count.ensures at c.check_number.ensures) c.in_ok-check_number.was

abbrev R_After_slice_known3 : After-slice_known-3-1 → Recording
R_After_slice_known3 c = recording_in c.args.b.now c.args.t.now

-- how many bytes the list has
size : (c : After-slice_known-3-1) → (length (list_bytes (naming_list (R_After_slice_known3 c) c.args.s.0)) ≡ c.count_all-count.result * list_entry_size) × (c.count_all-count.result ≤ sample_most * bundle_most)
size c =
    let a = c.args in
    let e = c.count_all-count.ensures.0 in
    let f = list_few a.b.now a.t.now a.s.0 c.requires.0 in
    (list_size_lem (naming_list (R_After_slice_known3 c) a.s.0) ∙ rw e, omega arith)

pub returns-in_err-check_number : goal.returns-in_err-check_number
unfolding recording_in
returns-in_err-check_number c =
    let p = err_from_is_err_and c.from_residual.result c.from_residual.ensures.1 in
    let f = some_fault _ (rw c.sample_count.ensures at c.check_number.ensures) c.in_err-check_number.was in
    (rw (p.1, p.2, f.2) (refuse (names_number _ _ _ f.0 f.1)), counts_bad _ _ _ f.0 f.1)

pub count_all-count-requires : goal.count_all-count-requires
count_all-count-requires c = c.requires

pub overflow_mul-size : goal.overflow_mul-size
overflow_mul-size c = let f = (size (goal.at.overflow_mul-size c).After-slice_known-3-1).1 in omega arith

pub returns-then-out-size : goal.returns-then-out-size
unfolding recording_in
returns-then-out-size c = let e = (size (goal.at.returns-then-out-size c).After-slice_known-3-1).0 in
    let h = c.if-out-size.true in
    let g = sound (goal.at.returns-then-out-size c).In_ok-check_number in
    (rw c.at.ensures (refuse (names_room _ _ _ g (omega arith))), c.count_all-count.ensures.3 ∙ counts_good _ _ _ g)

pub put_list-requires : goal.put_list-requires
unfolding recording_in
put_list-requires c = let w = c.count_all-count.ensures in
    let e = (size (goal.at.put_list-requires c).After-slice_known-3-1).0 in
    let h = c.if-out-size.false in
    let l = ap (λ (r : Recording). r.layout) w.1 in
    rw (w.1, l) (c.requires.0, omega arith, w.2)

pub returns : goal.returns
unfolding recording_in
returns c = let w = c.count_all-count.ensures in
    let e = (size (goal.at.returns c).After-slice_known-3-1).0 in
    let h = c.if-out-size.false in
    (rw (← e) (accept (names_listed _ _ _ (sound (goal.at.returns c).In_ok-check_number) (omega arith)) (rw w.1 at c.put_list.ensures)), w.3 ∙ counts_good _ _ _ (sound (goal.at.returns c).In_ok-check_number))
