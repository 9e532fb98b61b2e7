-- The kind of a track (01, 'The bundle', 1). A new kind is one more line of each.
use Rattle.std.specs.Prelude.{ℕ, Bool, true, false, None, Option, Some}
use Rattle.words.specs.Tests.{◌≡?◌, pick}
use Rattle.words.specs.RefusalNumbers.{unknown_kind}
use Rattle.words.specs.Refusals.{Answer, refused}
use Rattle.numbers.specs.declared.Kind.{Kind}
use Rattle.numbers.specs.declared.Kind.TheVariants.{Avc, Svc}

abbrev pub number_of_kind : Kind → ℕ
number_of_kind Avc = 0
number_of_kind Svc = 1

abbrev pub kind_of : ℕ → Option Kind
kind_of n =
    pick (n ≡? number_of_kind Avc) (Some Avc)
    (pick (n ≡? number_of_kind Svc) (Some Svc)
    None)

-- 4 at 0, outside a bundle
abbrev pub on_kind : {A : Type 0} → Option Kind → (Kind → Answer A) → Answer A
on_kind (Some k) call = call k
on_kind None call = refused unknown_kind 0

abbrev pub is_avc : Kind → Bool
is_avc Avc = true
is_avc Svc = false
