-- What numbers that fit their bits say, taken apart and built. Assumes nothing.
--
--   Numbers, numbers, numbers_true             of a record's fields
--   HighNumbers, high_numbers, high_true       of a trailer's values
use Prim.Native.Nat.{◌≤◌, ◌<◌}
use mathlib.Core.Path.{◌≡◌}
use mathlib.Core.Bool.{true}
use borrow.Author.Tests.{ltb-true, leb-true, lt-ltb, le-leb}
use Rattle.words.specs.Tests.{all}
use Rattle.words.proofs.Tests.{all_first}
use Rattle.numbers.specs.declared.Kind.{Kind}
use Rattle.record_rules.specs.Layout.{record_layout, flags_fit}
use Rattle.record_rules.specs.Trailers.{high_numbers_fit, ending}
use Rattle.record_rules.specs.Fields.{flags_of, numbers_fit}
use Rattle.record_rules.specs.declared.High.{High}
use Rattle.record_rules.specs.declared.Fields.{Fields}

pub record HighNumbers (t : High) : Type 0 where
  pub format : t.format < 4
  pub luma : t.luma < 8
  pub chroma : t.chroma < 8
  pub extensions : t.extensions < 256

pub high_numbers : (t : High) → high_numbers_fit t ≡ true → HighNumbers t
high_numbers t e =
    let a = all_first _ _ e in
    let b = all_first _ _ a.1 in
    let c = all_first _ _ b.1 in
    let d = all_first _ _ c.1 in
    record { format = ltb-true _ _ a.0; luma = ltb-true _ _ b.0; chroma = ltb-true _ _ c.0; extensions = ltb-true _ _ d.0 }

pub high_true : (t : High) → HighNumbers t → high_numbers_fit t ≡ true
unfolding all
high_true t n = rw (lt-ltb _ _ n.format, lt-ltb _ _ n.luma, lt-ltb _ _ n.chroma, lt-ltb _ _ n.extensions)

pub record Numbers (k : Kind) (f : Fields) : Type 0 where
  pub profile : f.profile < 256
  pub compatibility : f.compatibility < 256
  pub level : f.level < 256
  pub flags : flags_fit (record_layout k).flags 0 (flags_of f) ≡ true
  pub some : 0 < f.length_size
  pub most : f.length_size ≤ (record_layout k).length_size.low
  pub sequences : f.sequences < (record_layout k).count.low
  pub pictures : f.pictures < 256
  pub trailer : (ending f.trailer).fits ≡ true

pub numbers : (k : Kind) (f : Fields) → numbers_fit k f ≡ true → Numbers k f
unfolding numbers_fit
numbers k f e =
    let a = all_first _ _ e in
    let b = all_first _ _ a.1 in
    let c = all_first _ _ b.1 in
    let d = all_first _ _ c.1 in
    let g = all_first _ _ d.1 in
    let h = all_first _ _ g.1 in
    let i = all_first _ _ h.1 in
    let j = all_first _ _ i.1 in
    record {
      profile = ltb-true _ _ a.0;
      compatibility = ltb-true _ _ b.0;
      level = ltb-true _ _ c.0;
      flags = d.0;
      some = ltb-true _ _ g.0;
      most = leb-true _ _ h.0;
      sequences = ltb-true _ _ i.0;
      pictures = ltb-true _ _ j.0;
      trailer = (all_first _ _ j.1).0;
    }

pub numbers_true : (k : Kind) (f : Fields) → Numbers k f → numbers_fit k f ≡ true
unfolding numbers_fit all
numbers_true k f n =
    rw (
      lt-ltb _ _ n.profile,
      lt-ltb _ _ n.compatibility,
      lt-ltb _ _ n.level,
      n.flags,
      lt-ltb _ _ n.some,
      le-leb _ _ n.most,
      lt-ltb _ _ n.sequences,
      lt-ltb _ _ n.pictures,
      n.trailer,
    )
