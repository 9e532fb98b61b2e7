-- What an entry of the list says: the number of the extractor's own sample in 2 bytes, its place there in 4.
use Rattle.std.specs.Prelude.{ℕ, List}
use Rattle.words.specs.Bytes.{big}
use Rattle.numbers.specs.Places.{place_size}
use Rattle.naming_list_rules.specs.Naming.{sample_size}
use Rattle.naming_list.specs.declared.Entry.{Entry}

abbrev pub list_entry_in : List ℕ → Entry
list_entry_in s = record { sample = record { 0 = big s 0 sample_size }; place = record { 0 = big s sample_size place_size } }
