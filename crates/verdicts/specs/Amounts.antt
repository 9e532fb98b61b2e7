-- What an extractor of sample n of a recording r copies, counted (01, 'Resolving').
--
--   extract_amount r n f    an extractor with the fields f: 23, 24, then 25 to 28, or how many units and bytes it copies
--   amount_by r n m         the same of what stands at a place, nothing where that is no extractor
use Rattle.std.specs.Prelude.{ℕ, Err, None, Ok, Option, Result, Some}
use Rattle.words.specs.Tests.{◌≡?◌, pick}
use Rattle.units.specs.declared.Extractor as fields
use Rattle.bundles.specs.Recordings.{Recording}
use Rattle.links.specs.Links.{sample_named, name_fault}
use Rattle.resolution_rules.specs.Resolving.{sample_of}
use Rattle.mark_rules.specs.Amounts.{copy_amount}
use Rattle.units.specs.declared.Extractor.{Extractor}
use Rattle.mark_rules.specs.declared.CopyAmount.{CopyAmount}

unfoldable pub extract_amount : Recording → ℕ → fields.Extractor → Result CopyAmount ℕ
extract_amount r n f =
    let fault = name_fault r.layout n f.track_ref_index f.sample_offset in
    let m = sample_named r.layout n f.track_ref_index f.sample_offset in
    pick (fault ≡? 0) (copy_amount (sample_of r m) f.data_offset.0 f.data_length) (Err fault)

abbrev pub amount_by : Recording → ℕ → Option Extractor → Result CopyAmount ℕ
amount_by r n None = Ok (record { count = 0; bytes = 0 })
amount_by r n (Some f) = extract_amount r n f
