-- A bundle too long and a table too short come first. Assumes nothing.
use mathlib.Core.Path.{sym, ◌∙◌}
use mathlib.Core.Logic.{inl, inr}
use lib.ListN.{length}
use Rattle.words.proofs.Buffers.{refuse}
use Rattle.naming_list.proofs.Listings.{names_beside, names_unfit}
use Rattle.naming_list.proofs.names_in.Goals as goal

pub returns-then-b-gt-BUNDLE_MOST : goal.returns-then-b-gt-BUNDLE_MOST
returns-then-b-gt-BUNDLE_MOST c = let w = names_unfit _ _ _ _ (inl c.if-b-gt-BUNDLE_MOST.true) in (rw c.at.ensures (refuse w.0), sym w.1)

pub returns-then-t-lt-TABLE_SIZE : goal.returns-then-t-lt-TABLE_SIZE
returns-then-t-lt-TABLE_SIZE c = let w = names_unfit _ _ _ _ (inr c.if-t-lt-TABLE_SIZE.true) in (rw c.at-then-t-lt-TABLE_SIZE.ensures (refuse w.0), sym w.1)

pub list_sample-requires : goal.list_sample-requires
list_sample-requires c = (c.if-b-gt-BUNDLE_MOST.false, c.if-t-lt-TABLE_SIZE.false)

pub returns : goal.returns
returns c = let a = c.args in
    let w = names_beside a.b.now a.t.now a.s.0 (length a.out.now) c.if-b-gt-BUNDLE_MOST.false c.if-t-lt-TABLE_SIZE.false in
    let e = c.list_sample.ensures in
    (rw w.0 e.0, e.1 ∙ sym w.1)
