-- What the code answers: the sample named, if there is one; the fault, or else the sample named.
use Rattle.std.specs.Prelude.{ℕ, Err, None, Ok, Option, Result, Some}
use Rattle.words.specs.Tests.{◌≡?◌, pick}
use Rattle.bundles.specs.Recordings.{Layout}
use Rattle.links.specs.Links.{sample_named, name_fault}
use Rattle.numbers.specs.declared.SampleNumber.{SampleNumber}

-- the sample with a number; 0 is none
unfoldable pub sample_if_any : ℕ → Option SampleNumber
sample_if_any m = pick (m ≡? 0) None (Some (record { 0 = m }))

unfoldable pub naming : Layout → ℕ → ℕ → ℕ → Result SampleNumber ℕ
naming y n index offset =
    let fault = name_fault y n index offset in
    pick (fault ≡? 0) (Ok (record { 0 = sample_named y n index offset })) (Err fault)
