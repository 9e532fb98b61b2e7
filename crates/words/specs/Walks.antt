-- Walks as lists of places. A walk does not stop at a fault: the first refusal of the list is what counts.
--
--   entries next n p   n places from p on, each by next from the one before
--   skip next n p      the place after them
use Rattle.std.specs.Prelude.{ℕ, zero, suc, List, [], ◌∷◌}

unfoldable pub entries : (ℕ → ℕ) → ℕ → ℕ → List ℕ
entries next zero p = []
entries next (suc n) p = p ∷ entries next n (next p)

unfoldable pub skip : (ℕ → ℕ) → ℕ → ℕ → ℕ
skip next zero p = p
skip next (suc n) p = skip next n (next p)
