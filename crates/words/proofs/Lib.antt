-- The laws of the words, each once, and the set of rules that tactics share.
--
--   Tests       tests from facts (`search tests`), cases of a computed value
--   Refusals    chains of refusals taken apart and built; the first refusal of a list
--   Lists       membership, order, joined lists
--   Walks       entries of a table, and the place after them
--   Entries     a walk over entries, entry by entry; sums and maps
--   Positions   what stands in a list from a place on
--   Bytes       numbers read and written, for any width
--   Splices     parts and cuts of a list in which a part is replaced
--   Buffers     written bytes
--   Rows        lists by number, written lists, rows of four numbers
--   Kept        `keep`, `each`, rising lists
--   Numbered    the nth element, parts past the end
--   Joined      joined lists, the first refusal in them, parts of parts
pub mod Tests
pub mod Refusals
pub mod Lists
pub mod Walks
pub mod Entries
pub mod Positions
pub mod Bytes
pub mod Splices
pub mod Buffers
pub mod Rows
pub mod Kept
pub mod Numbered
pub mod Joined
