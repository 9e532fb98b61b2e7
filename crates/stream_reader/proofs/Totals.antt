-- How much a sample takes, as far as there is room. Assumes nothing.
--
--   sample_size_lem           the sample of one unit more
--   total_more, total_fits    a total with more added, by the room
--   added_capped              a total of m with more added is a total of more
--   capped_size, capped_long  what a total says
use Prim.Native.Nat.{ℕ, ◌+◌, ◌≤◌, ◌<◌}
use mathlib.Core.Path.{◌≡◌, ap, ◌∙◌}
use mathlib.Core.List.{List, ◌∷◌, ◌++◌}
use native.Mathlib.Omega.{arith}
use borrow.Author.Tests.{lt-ltb, le-ltb, ltb-true, ltb-false}
use lib.ListN.{length, length-append}
use Rattle.words.specs.Tests.{◌<?◌}
use Rattle.words.specs.Bytes.{bytes}
use Rattle.words.proofs.Tests.{by_bool}
use Rattle.words.proofs.Bytes.{bytes_length}
use Rattle.byte_streams.specs.Reading.{sample_with}
use Rattle.byte_streams.proofs.Samples.{sample_more}
use Rattle.std.specs.Prelude.{Option, Some, None}
use Rattle.stream_reader.specs.Steps.{capped, add_to}

pub sample_size_lem : (L : ℕ) (u : List ℕ) (us : List (List ℕ)) → length (sample_with L (u ∷ us)) ≡ L + length u + length (sample_with L us)
sample_size_lem L u us =
    let a = ap length (sample_more L u us) ∙ length-append (bytes L (length u) ++ u) (sample_with L us) in
    let b = length-append (bytes L (length u)) u in
    let c = bytes_length L (length u) in
    omega arith

module _ (room : ℕ) where
  pub total_more : (t : Option ℕ) {m : ℕ} (w n : ℕ) → t ≡ Some m → room < m + w + n → None ≡ add_to room t w n
  total_more t {m} w n e h = rw (e, lt-ltb room (m + w + n) h)

  pub total_fits : (t : Option ℕ) {m : ℕ} (w n : ℕ) → t ≡ Some m → m + w + n ≤ room → Some (m + w + n) ≡ add_to room t w n
  total_fits t {m} w n e h = rw (e, le-ltb room (m + w + n) h)

  pub added_capped : (m w n : ℕ) → add_to room (capped room m) w n ≡ capped room (m + w + n)
  added_capped m w n = by_bool (room <? m)
      (λ t. let h = ltb-true room m t in rw (t, lt-ltb room (m + w + n) (omega arith)))
      (λ t. rw t)

  pub capped_size : (m : ℕ) {n : ℕ} → capped room m ≡ Some n → (m ≡ n) × (m ≤ room)
  capped_size m {n} e = by_bool (room <? m)
      (λ t. let f : None ≡ Some n = rw t at e in let z : ◌≡◌ {A = ℕ} 0 1 = cc in absurd (omega arith))
      (λ t. let f : Some m ≡ Some n = rw t at e in (cc, ltb-false room m t))

  pub capped_long : (m : ℕ) → capped room m ≡ None → room < m
  capped_long m e = by_bool (room <? m)
      (λ t. ltb-true room m t)
      (λ t. let f : Some m ≡ None = rw t at e in let z : ◌≡◌ {A = ℕ} 0 1 = cc in absurd (omega arith))
