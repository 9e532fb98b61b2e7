-- How long the unit is that starts at a place of a stream s, from stop to stop. Assumes nothing.
--
--   unit_most       it is not longer than what is left of the stream
--   Ending          the unit that goes on at a place, with its stop and the end of the zeros there, ends where the one looked for does
--   ending_start    at the start
--   ending_past     where a byte follows that may not, the unit ends there or after
--   ending_on       it goes on there
--   ending_done     where nothing or a start code follows, it ends at the stop
use Prim.Native.Nat.{ℕ, ◌+◌, ◌-◌, ◌≤◌, ◌<◌}
use mathlib.Core.Path.{◌≡◌, refl, ap}
use mathlib.Core.List.{List}
use native.Mathlib.Omega.{arith}
use lib.ListN.{length, drop, length-drop}
use Rattle.words.specs.Bytes.{byte_at}
use Rattle.byte_streams.specs.Reading.{split}
use Rattle.byte_streams.specs.Places.{unit_stop, zeros_end}
use Rattle.byte_streams.proofs.Splits.{split_most, strip_most}
use Rattle.byte_streams.proofs.Places.{stop_one, stop_inside}
use Rattle.stream_reader.specs.Steps.{unit_from, next_from}
use Rattle.stream_reader.proofs.Found.{Bad, found_good, found_bad, next_inside, next_by}

pub unit_most : (s : List ℕ) (a : ℕ) → length (unit_from s a) ≤ length s - a
unfolding unit_from
unit_most s a =
    let strips = strip_most (split (drop a s)).before in
    let splits = split_most (drop a s) in
    let l = length-drop a s in
    omega arith

pub record Ending (s : List ℕ) (start stop next : ℕ) : Type 0 where
  pub from : ℕ
  pub inside : from ≤ length s
  pub stops : stop ≡ unit_stop s from
  pub nexts : next ≡ next_from s from
  pub order : (start ≤ stop) × (stop ≤ next)
  pub unit : from + length (unit_from s from) ≡ start + length (unit_from s start)

pub ending_start : (s : List ℕ) (start stop next : ℕ) → start ≤ length s → stop ≡ unit_stop s start → next ≡ zeros_end s stop → Ending s start stop next
ending_start s start stop next h e f =
    let n = next_by s start stop e f in
    let k = next_inside s start h in
    record { from = start; inside = h; stops = e; nexts = n; order = (omega arith, omega arith); unit = refl }

module _ (s : List ℕ) (start stop next : ℕ) (w : Ending s start stop next) where
  module _ (i : next < length s) (b : byte_at s next ≡ 1 → ⊥) where
    bad : Bad s w.from
    bad = found_bad s w.from w.inside next w.nexts i b

    pub ending_past : next ≤ start + length (unit_from s start)
    ending_past = let n = w.nexts in let on = bad.on in let unit = w.unit in omega arith

    pub ending_on : (stop' next' : ℕ) → stop' ≡ unit_stop s next → next' ≡ zeros_end s stop' → (next < next') × Ending s start stop' next'
    ending_on stop' next' e f =
        let n = w.nexts in
        let m = next_by s next stop' e f in
        let j = ap (byte_at s) n in
        let above = bad.byte in
        let one = stop_one s next i (λ z. omega arith) in
        let past = (stop_inside s (next + 1) (omega arith)).0 in
        let k = next_inside s next (omega arith) in
        let order = w.order in
        let on = bad.on in
        let unit = w.unit in
        let same = ap (λ (q : ℕ). length (unit_from s q)) n in
        (omega arith, record { from = next; inside = omega arith; stops = e; nexts = m; order = (omega arith, omega arith); unit = omega arith })

  pub ending_done : (next < length s → byte_at s next ≡ 1) → stop ≡ start + length (unit_from s start)
  ending_done b =
      let size = (found_good s w.from w.inside next w.nexts b).size in
      let e = w.stops in
      let k = (stop_inside s w.from w.inside).0 in
      let unit = w.unit in
      omega arith
