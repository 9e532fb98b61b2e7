-- The fields and the places of an accepted record are the definition's. Assumes nothing.
use native.Mathlib.Omega.{arith}
use mathlib.Core.Path.{ap}
use Rattle.record_rules.proofs.Parsed.{parsed}
use Rattle.records.proofs.accepted.Goals as goal

pub fields_of-fields-requires : goal.fields_of-fields-requires
fields_of-fields-requires c =
    let w = parsed c.args.k c.args.s.now c.requires.0 in
    (w.head.there, omega (arith, w.count, c.requires.1), c.requires.1, ap (λ f. f.trailer) c.requires.3)
