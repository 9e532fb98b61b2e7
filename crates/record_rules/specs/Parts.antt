-- What fits a record, part by part, without making its bytes: as the writer finds it. `fits_by_parts_lem` says that it is `fits`.
use Rattle.std.specs.Prelude.{ℕ, Bool, not, List, [], ◌∷◌}
use Rattle.words.specs.Tests.{◌≡?◌, all}
use Rattle.numbers.specs.declared.Kind.{Kind}
use Rattle.sets.specs.Sets.{sets_fit}
use Rattle.record_rules.specs.Layout.{record_layout, bad_size, picture_types}
use Rattle.record_rules.specs.Trailers.{extension_types, ending}
use Rattle.record_rules.specs.Fields.{numbers_fit}
use Rattle.record_rules.specs.declared.Fields.{Fields}

unfoldable pub fits_by_parts : Kind → Fields → List ℕ → List ℕ → List ℕ → Bool
fits_by_parts k f sequences pictures extensions =
    all (numbers_fit k f
    ∷ not (f.length_size ≡? bad_size)
    ∷ sets_fit (record_layout k).sequence sequences f.sequences
    ∷ sets_fit picture_types pictures f.pictures
    ∷ (ending f.trailer).belongs k f.profile
    ∷ sets_fit extension_types extensions (ending f.trailer).sets
    ∷ [])
