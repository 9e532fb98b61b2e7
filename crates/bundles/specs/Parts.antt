-- Parts of a bundle.
--
--   BundlePart    where a part starts, an offset in the bundle, and its size
--   bytes_in b q  its bytes
use Rattle.std.specs.Prelude.{ℕ, List}
use Rattle.words.specs.Bytes.{part}

pub record BundlePart : Type 0 where
  pub start : ℕ
  pub size : ℕ

abbrev pub bytes_in : List ℕ → BundlePart → List ℕ
bytes_in b q = part b q.start q.size
