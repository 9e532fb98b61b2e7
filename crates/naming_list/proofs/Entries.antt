-- An entry that was written is read back. Assumes that its numbers fit their bytes, as in every bundle that is accepted (naming_list_rules).
use mathlib.Core.Path.{◌≡◌}
use mathlib.Core.List.{[], append-nil}
use Rattle.naming_list_rules.specs.Naming.{Namer, entry_bytes}
use Rattle.naming_list_rules.proofs.Entries.{EntryFits, entry_read}
use Rattle.naming_list.specs.Entries.{list_entry_in}

pub entry_back : (e : Namer) → EntryFits e → list_entry_in (entry_bytes e) ≡ record { sample = record { 0 = e.sample }; place = record { 0 = e.place } }
entry_back e h =
    let w = rw (append-nil (entry_bytes e)) at (entry_read e [] h) in
    rw (w.0, w.1)
