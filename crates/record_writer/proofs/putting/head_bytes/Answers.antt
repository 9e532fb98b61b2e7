-- Each byte by its shape. Assumes nothing.
use native.Mathlib.Omega.{arith}
use mathlib.Core.Path.{◌≡◌}
use mathlib.Core.Bool.{true}
use Prim.Native.Nat.{◌+◌, ◌-◌, ◌*◌, ◌<◌}
use Rattle.numbers.specs.declared.Kind.{Kind}
use Rattle.record_rules.specs.Layout.{record_layout, byte_of, bit}
use Rattle.record_rules.specs.Fields.{numbers_fit}
use Rattle.record_rules.specs.declared.Fields.{Fields}
use Rattle.record_rules.proofs.Shapes.{row, byte_below, plain_below, flagged, flags_one}
use Rattle.record_rules.proofs.Numbers.{numbers}
use Rattle.record_writer.proofs.putting.head_bytes.Goals as goal
use Rattle.record_writer.proofs.putting.head_bytes.Goals.{After-bit}

-- the byte of the length size less one, and with the flag before it
record Fifth (k : Kind) (f : Fields) : Type 0 where
  plain : byte_of (record_layout k).length_size (f.length_size - 1) < 256
  flagged : bit f.complete * 128 + byte_of (record_layout k).length_size (f.length_size - 1) < 256

fifth : (k : Kind) (f : Fields) → numbers_fit k f ≡ true → Fifth k f
fifth k f e =
    let n = numbers k f e in
    let l : f.length_size - 1 < (record_layout k).length_size.low = omega (arith, n.some, n.most) in
    record {
      plain = plain_below (record_layout k).length_size (row k).length_size (f.length_size - 1) l;
      flagged = rw (← flags_one f.complete) (flagged k f.complete _ n.flags (byte_below (record_layout k).length_size (row k).length_size (f.length_size - 1) l)).below;
    }

below : (c : After-bit) → c.bit.result * 128 + c.byte_of-less_one.result < 256
below c = rw (c.bit.ensures.0, c.byte_of-less_one.ensures, c.record_layout-l.ensures) (fifth c.args.k c.args.f c.requires).flagged

pub overflow_sub-f : goal.overflow_sub-f
overflow_sub-f c = let n = numbers c.args.k c.args.f c.requires in omega (arith, n.some)

pub byte_of-less_one-requires : goal.byte_of-less_one-requires
byte_of-less_one-requires c = rw c.record_layout-l.ensures (fifth c.args.k c.args.f c.requires).plain

pub overflow_add-fifth : goal.overflow_add-fifth
overflow_add-fifth c = let l = below (goal.at.overflow_add-fifth c).After-bit in omega arith

pub byte_of-sixth-requires : goal.byte_of-sixth-requires
byte_of-sixth-requires c = rw c.record_layout-l.ensures (plain_below (record_layout c.args.k).count (row c.args.k).count c.args.f.sequences (numbers c.args.k c.args.f c.requires).sequences)

pub overflow_cast-result : goal.overflow_cast-result
overflow_cast-result c = let n = numbers c.args.k c.args.f c.requires in omega (arith, n.profile)

pub overflow_cast-result-2 : goal.overflow_cast-result-2
overflow_cast-result-2 c = let n = numbers c.args.k c.args.f c.requires in omega (arith, n.compatibility)

pub overflow_cast-result-3 : goal.overflow_cast-result-3
overflow_cast-result-3 c = let n = numbers c.args.k c.args.f c.requires in omega (arith, n.level)

pub returns : goal.returns
returns c = rw (c.byte_of-less_one.ensures, c.bit.ensures.0, flags_one, c.byte_of-sixth.ensures, c.record_layout-l.ensures)
