-- The first place at fault.
--
--   FirstIn Good ps p    p is one of the places ps, and every place before it is good
use Rattle.std.specs.Prelude.{ℕ, List, ◌∷◌}

pub data FirstIn (Good : ℕ → Type 0) : List ℕ → ℕ → Type 0 where
  here : {p : ℕ} {ps : List ℕ} → FirstIn Good (p ∷ ps) p
  after : {p q : ℕ} {ps : List ℕ} → Good q → FirstIn Good ps p → FirstIn Good (q ∷ ps) p
