-- Nothing where the unit is dropped, three parts where additional_bytes are set to 0, else one. Assumes nothing.
use native.Mathlib.Omega.{arith}
use mathlib.Core.Path.{◌≡◌, refl, sym, ◌∙◌}
use mathlib.Core.Bool.{true}
use Prim.Native.Nat.{◌+◌, ◌≤◌}
use lib.ListN.{length}
use Rattle.words.proofs.Lists.{has_from}
use Rattle.units.specs.Units.{Sample, sample, is_aggregator}
use Rattle.units.specs.Rules.{Whole}
use Rattle.units.proofs.Units.{whole_end, whole_aggregator}
use Rattle.samples.proofs.Walks.{top_whole}
use Rattle.salvage_rules.specs.declared.Fate.TheVariants.{Kept, Dropped, Zeroed}
use Rattle.salvage_rules.proofs.Units.{new_by, zeroed_from}
use Rattle.salvage_rules.proofs.Reasons.{loses_aggregator}
use Rattle.salvage.proofs.Filled.{put_none, put_kept, put_zeroed}
use Rattle.salvage.proofs.writing.put_unit.Goals as goal
use Rattle.salvage.proofs.writing.put_unit.Goals.{After-bytes-n, In-Zeroed, Start}

abbrev X : Start → Sample
X c = sample c.args.k c.args.y.now

unit : (c : Start) → Whole (X c) (length c.args.y.now) c.args.at
unit c = top_whole (X c) c.requires.0.0 _ (has_from _ _ c.requires.0.1)

ends : (c : Start) → c.args.end ≤ length c.args.y.now
ends c = let w = (whole_end _ _ _ (unit c)).1 in let e = c.requires.1 in omega arith

abbrev X_After_enum_told3 : In-Zeroed → Sample
X_After_enum_told3 c = sample c.args.k c.args.y.now

-- a unit that loses what it covers is an aggregator
aggregator : (c : In-Zeroed) → is_aggregator (X_After_enum_told3 c) c.args.at ≡ true
aggregator c = loses_aggregator (X_After_enum_told3 c) c.args.at (zeroed_from (X_After_enum_told3 c) c.args.at (sym c.requires.2 ∙ c.in-Zeroed.is)).1

abbrev X_After_bytes : After-bytes-n → Sample
X_After_bytes c = sample c.args.k c.args.y.now

unit_After_bytes : (c : After-bytes-n) → Whole (X_After_bytes c) (length c.args.y.now) c.args.at
unit_After_bytes c = top_whole (X_After_bytes c) c.requires.0.0 _ (has_from _ _ c.requires.0.1)

aggregator_After_bytes : (c : After-bytes-n) → is_aggregator (X_After_bytes c) c.args.at ≡ true
aggregator_After_bytes c = loses_aggregator (X_After_bytes c) c.args.at (zeroed_from (X_After_bytes c) c.args.at (sym c.requires.2 ∙ c.in-Zeroed.is)).1

fits : (c : After-bytes-n) → c.args.at + (c.bytes-n.result + 4) + c.bytes-n.result ≤ c.args.end
fits c = let g = whole_aggregator _ _ _ (unit_After_bytes c) (aggregator_After_bytes c) in let e = c.requires.1 in let n = c.bytes-n.ensures.0 in omega arith

pub slice_bounds-put_bytes-end : goal.slice_bounds-put_bytes-end
slice_bounds-put_bytes-end c = ends (goal.at.slice_bounds-put_bytes-end c).Start

pub overflow_add-field : goal.overflow_add-field
overflow_add-field c = let f = fits (goal.at.overflow_add-field c).After-bytes-n in let e = ends (goal.at.overflow_add-field c).Start in omega arith

pub overflow_add-rest : goal.overflow_add-rest
overflow_add-rest c = let f = fits (goal.at.overflow_add-rest c).After-bytes-n in let e = ends (goal.at.overflow_add-rest c).Start in omega arith

pub slice_bounds-put_bytes-end-in-Zeroed : goal.slice_bounds-put_bytes-end-in-Zeroed
slice_bounds-put_bytes-end-in-Zeroed c = let f = fits (goal.at.slice_bounds-put_bytes-end-in-Zeroed c).After-bytes-n in let e = ends (goal.at.slice_bounds-put_bytes-end-in-Zeroed c).Start in omega arith

pub slice_bounds-put_bytes-count-in-Zeroed-2 : goal.slice_bounds-put_bytes-count-in-Zeroed-2
slice_bounds-put_bytes-count-in-Zeroed-2 c = let f = fits (goal.at.slice_bounds-put_bytes-count-in-Zeroed-2 c).After-bytes-n in omega arith

pub slice_bounds-put_bytes-start-in-Zeroed-2 : goal.slice_bounds-put_bytes-start-in-Zeroed-2
slice_bounds-put_bytes-start-in-Zeroed-2 c = let f = fits (goal.at.slice_bounds-put_bytes-start-in-Zeroed-2 c).After-bytes-n in omega arith

pub slice_bounds-put_bytes-end-in-Zeroed-2 : goal.slice_bounds-put_bytes-end-in-Zeroed-2
slice_bounds-put_bytes-end-in-Zeroed-2 c = ends (goal.at.slice_bounds-put_bytes-end-in-Zeroed-2 c).Start

pub returns-in-Dropped : goal.returns-in-Dropped
returns-in-Dropped c = rw (new_by (X (goal.at.returns-in-Dropped c).Start) c.args.at Dropped (sym c.requires.2 ∙ c.in-Dropped.is)) (put_none _ _)

pub returns-in-Kept : goal.returns-in-Kept
returns-in-Kept c = rw (new_by (X (goal.at.returns-in-Kept c).Start) c.args.at Kept (sym c.requires.2 ∙ c.in-Kept.is), c.put_bytes.ensures) (put_kept (X (goal.at.returns-in-Kept c).Start) c.args.at (unit (goal.at.returns-in-Kept c).Start) _ _ _ c.requires.1)

pub returns-in-Zeroed : goal.returns-in-Zeroed
returns-in-Zeroed c = let n = c.bytes-n.result in
    let z = new_by (X (goal.at.returns-in-Zeroed c).Start) c.args.at Zeroed (sym c.requires.2 ∙ c.in-Zeroed.is) in
    rw (z, c.put_bytes-in-Zeroed-2.ensures, c.put_number.ensures, c.put_bytes-in-Zeroed.ensures)
    (put_zeroed (X (goal.at.returns-in-Zeroed c).Start) c.args.at (unit (goal.at.returns-in-Zeroed c).Start) (aggregator (goal.at.returns-in-Zeroed c).In-Zeroed) c.args.out.now c.args.o n (n + 4) (c.args.at + (n + 4)) (c.args.at + (n + 4) + n) c.args.end
    c.bytes-n.ensures.0 refl refl refl c.requires.1 (rw z at c.requires.3))
