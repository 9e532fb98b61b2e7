-- What the calls answer, step by step as the code takes them. Assumes nothing.
--
--   count_in_table                the count that a table says
--   lines_filled, tally_filled    the calls by a table that was filled
use Rattle.std.specs.Prelude.{Ok}
use Prim.Native.Nat.{ℕ}
use mathlib.Core.Path.{◌≡◌, sym}
use mathlib.Core.List.{List}
use lib.ListN.{length}
use Rattle.words.specs.Refusals.{ok}
use Rattle.words.specs.Buffers.{within}
use Rattle.bundles.specs.Recordings.{sample_count}
use Rattle.bundles.specs.Readers.{first_layout}
use Rattle.tables.specs.Tables.{layout_in, recording_in}
use Rattle.filling.specs.Filling.{filling, table_after}
use Rattle.filling.proofs.Promises.{table_accepted, table_means}
use Rattle.audit_rules.specs.Auditing.{lines, audit_call, tally_call, tally_within}
use Rattle.audit_rules.proofs.Calls.{audit_means, tally_means}

pub count_in_table : (b t : List ℕ) {count : ℕ} → count ≡ sample_count (layout_in t) → count ≡ sample_count (recording_in b t).layout
unfolding recording_in
count_in_table b t e = e

-- a table that was filled: whatever is said by the table that is left
module _ (b t : List ℕ) (done : filling first_layout b (length t) ≡ (Ok tt)) {s : List ℕ} (f : s ≡ table_after first_layout b t) (room : ℕ) where
  pub lines_filled : within room (ok (lines (recording_in b s))) ≡ audit_call first_layout b room
  lines_filled = rw (f, table_means b t done) (sym (audit_means first_layout b room (table_accepted b t done)))

  pub tally_filled : tally_within (recording_in b s) room ≡ tally_call first_layout b room
  tally_filled = rw (f, table_means b t done) (sym (tally_means first_layout b room (table_accepted b t done)))
