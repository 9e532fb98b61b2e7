-- What the calls answer (02, [11]): the new sample, the list of changes and, on a bundle, the naming list of the old sample.
--
--   listable_most  the most bytes of a sample whose places 4 bytes can say
--   outputs x      the new sample and the list, as bytes
--   salvage_of x   the two, or 29 for a sample that is longer
--   salvage_alone  the call on a sample outside a bundle: 4, 11, 29
--   salvage r n    the call on a recording: 30, or the three outputs
--   salvage_call   the call on a bundle: 1 to 13, 30, then 29 if any of the three lent buffers lacks room
use Rattle.std.specs.Prelude.{ℕ, List, [], ◌∷◌, ◌++◌}
use Rattle.words.specs.Tests.{◌<?◌}
use Rattle.words.specs.RefusalNumbers.{output_too_long}
use Rattle.words.specs.Refusals.{◌if◌, Answer, ok, ◌and_then◌, ◌at_place◌}
use Rattle.words.specs.Buffers.{within_all}
use Rattle.numbers.specs.Kinds.{kind_of, on_kind}
use Rattle.numbers.specs.Sizes.{length_size_of, on_length_size}
use Rattle.units.specs.Units.{Sample, end}
use Rattle.bundles.specs.Recordings.{Recording}
use Rattle.bundles.specs.Readers.{Reader}
use Rattle.resolution_rules.specs.Resolving.{sample_of}
use Rattle.resolution_rules.specs.Calls.{on_sample, on_bundle}
use Rattle.naming_list_rules.specs.Naming.{naming_list, list_bytes}
use Rattle.salvage_rules.specs.Salvage.{salvaged, changes, change_list_bytes}

abbrev pub listable_most : ℕ
listable_most = 4294967296

abbrev pub outputs : Sample → List (List ℕ)
outputs x = (salvaged x).content ∷ change_list_bytes (changes x) ∷ []

-- Outside a bundle a sample may be of any length. One that is longer is refused, well formed or not: the list could not say its places.
unfoldable pub salvage_of : Sample → Answer (List (List ℕ))
salvage_of x = (output_too_long if listable_most <? end x) at_place 0 and_then ok (outputs x)

unfoldable pub salvage_alone : ℕ → ℕ → List ℕ → ℕ → ℕ → Answer (List (List ℕ))
salvage_alone kind l s room changes_room =
    within_all (room ∷ changes_room ∷ [])
    (on_kind (kind_of kind) (λ k. on_length_size (length_size_of l) (λ n. salvage_of (record { kind = k; length_size = n; content = s }))))

unfoldable pub salvage : Recording → ℕ → Answer (List (List ℕ))
salvage r n = on_sample r n (ok (outputs (sample_of r n) ++ (list_bytes (naming_list r n) ∷ [])))

unfoldable pub salvage_call : Reader → List ℕ → ℕ → ℕ → ℕ → ℕ → Answer (List (List ℕ))
salvage_call reader b n room changes_room names_room =
    within_all (room ∷ changes_room ∷ names_room ∷ []) (on_bundle reader b (λ r. salvage r n))
