-- Buffers that are enough for every bundle. Assumes nothing.
--
--   table_whole    a table of the most numbers, filled from an accepted bundle, gives its recording
--   lines_whole    an audit into a buffer for the most lines goes by the bundle alone
use Rattle.std.specs.Prelude.{Ok}
use Prim.Native.Nat.{ℕ, ◌*◌, ◌≤◌}
use mathlib.Core.Path.{◌≡◌, ◌∙◌}
use mathlib.Core.List.{List}
use native.Mathlib.Omega.{arith}
use lib.ListN.{length}
use Rattle.words.specs.Refusals.{ok}
use Rattle.words.proofs.Refusals.{by_answer}
use Rattle.words.proofs.Buffers.{within_room}
use Rattle.bundles.specs.Limits.{sample_most}
use Rattle.bundles.specs.Recordings.{Recording}
use Rattle.bundles.specs.Bundles.{bundle_verdict, recording_of, meaning}
use Rattle.bundles.specs.Readers.{first_layout}
use Rattle.bundles.proofs.Promises.{limits_kept}
use Rattle.tables.specs.Tables.{table_most, recording_in}
use Rattle.filling.specs.Filling.{filling, table_after}
use Rattle.filling.proofs.Reading.{held_room}
use Rattle.filling.proofs.Promises.{table_room, table_recording}
use Rattle.resolution_rules.specs.Calls.{on_bundle}
use Rattle.audit_rules.specs.Auditing.{line_size, lines, audit_call}
use Rattle.audit_rules.proofs.Calls.{audit_bundle, audit_means}
use Rattle.audit_rules.proofs.Lines.{lines_length}

table_done : (b : List ℕ) (room : ℕ) (r : Recording) → meaning b ≡ ok r → table_most ≤ room → filling first_layout b room ≡ (Ok tt)
unfolding filling
table_done b room r e h = let x = table_room b r e in rw (e, held_room room r (omega arith))

accepted : (b : List ℕ) → bundle_verdict b ≡ ok tt → meaning b ≡ ok (recording_of b)
unfolding meaning
accepted b e = rw e

pub table_whole : (b t : List ℕ) {s : List ℕ} → s ≡ table_after first_layout b t → table_most ≤ length t → bundle_verdict b ≡ ok tt → recording_in b s ≡ recording_of b
table_whole b t f h e = let r = recording_of b in let m = accepted b e in rw f (table_recording b t r m (table_done b (length t) r m h))

pub lines_whole : (b : List ℕ) (room : ℕ) → line_size * sample_most ≤ room → audit_call first_layout b room ≡ on_bundle first_layout b (λ r. ok (lines r))
lines_whole b room h = by_answer (meaning b)
    (λ n p e. audit_bundle first_layout b room e ∙ rw e)
    (λ r e.
    let l = lines_length r in
    let x = (limits_kept b r e).samples in
    audit_means first_layout b room e ∙ within_room room (lines r) (omega arith) ∙ rw e)
