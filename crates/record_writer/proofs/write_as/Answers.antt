-- 31, then 29, then the record. Assumes nothing.
use native.Mathlib.Omega.{arith}
use mathlib.Core.Path.{◌≡◌, refl, sym, ap, ◌∙◌}
use Prim.Native.Nat.{ℕ, ◌+◌}
use lib.ListN.{length}
use Rattle.std.specs.Prelude.{Option, None, Some, Err}
use Rattle.std.specs.Option.{ok_or}
use Rattle.std.proofs.lemmas.Result.{err_from_is_err_and}
use Rattle.numbers.specs.declared.Refusal.{Refusal}
use Rattle.record_writer.proofs.Laws.{bytes_length, write_misfit, write_fits, room_lacks, room_fits}
use Rattle.record_rules.specs.Fields.{record_bytes}
use Rattle.words.specs.Buffers.{within}
use Rattle.words.proofs.Buffers.{refuse, accept, within_room, within_not}
use Rattle.record_writer.proofs.write_as.Goals as goal

-- there is no room
lacks : (o : Option ℕ) (e d : Refusal) → Err e ≡ ok_or o d → (o ≡ None) × (e ≡ d)
lacks None e d h = (refl, cc)
lacks (Some n) e d h = absurd cc

pub returns-then-not-fit : goal.returns-then-not-fit
returns-then-not-fit c = let a = c.args in
    rw c.at.ensures (refuse (ap (within (length a.out.now)) (write_misfit a.k a.f a.sequences.now a.pictures.now a.extensions.now (sym c.fit.ensures ∙ c.if-not-fit.true))))

pub returns-in_err-n : goal.returns-in_err-n
returns-in_err-n c = let a = c.args in
    let p = err_from_is_err_and c.from_residual.result c.from_residual.ensures.1 in
    let l = lacks _ _ _ c.in_err-n.ensures.value in
    let out = record_bytes a.k a.f a.sequences.now a.pictures.now a.extensions.now in
    let g = room_lacks (7 + c.facts_of-facts.result.head + length a.sequences.now + length a.pictures.now + length a.extensions.now) (length a.out.now) (sym c.room_for-room.ensures ∙ l.0) in
    let h = ap (λ w. w.head) c.facts_of-facts.ensures.0 in
    rw (p.1, p.2, l.1, c.at-2.ensures)
    (refuse (ap (within (length a.out.now)) (write_fits a.k a.f a.sequences.now a.pictures.now a.extensions.now (sym c.fit.ensures ∙ c.if-not-fit.false)) ∙ within_not (length a.out.now) out (omega (arith, bytes_length a.k a.f a.sequences.now a.pictures.now a.extensions.now, g, h))))

pub put_record-requires : goal.put_record-requires
put_record-requires c = let a = c.args in
    let g = room_fits (7 + c.facts_of-facts.result.head + length a.sequences.now + length a.pictures.now + length a.extensions.now) (length a.out.now) _ (sym c.room_for-room.ensures ∙ c.in_ok-n.ensures.ok_part) in
    let h = ap (λ w. w.head) c.facts_of-facts.ensures.0 in
    (sym c.fit.ensures ∙ c.if-not-fit.false, h, omega (arith, bytes_length a.k a.f a.sequences.now a.pictures.now a.extensions.now, g.0, h))

pub returns : goal.returns
returns c = let a = c.args in
    let out = record_bytes a.k a.f a.sequences.now a.pictures.now a.extensions.now in
    let g = room_fits (7 + c.facts_of-facts.result.head + length a.sequences.now + length a.pictures.now + length a.extensions.now) (length a.out.now) _ (sym c.room_for-room.ensures ∙ c.in_ok-n.ensures.ok_part) in
    let h = ap (λ w. w.head) c.facts_of-facts.ensures.0 in
    let n : c.in_ok-n.n ≡ length out = omega (arith, bytes_length a.k a.f a.sequences.now a.pictures.now a.extensions.now, g.1, h) in
    rw n (accept (ap (within (length a.out.now)) (write_fits a.k a.f a.sequences.now a.pictures.now a.extensions.now (sym c.fit.ensures ∙ c.if-not-fit.false)) ∙ within_room (length a.out.now) out (omega (arith, g.0, n, g.1))) c.put_record.ensures)
