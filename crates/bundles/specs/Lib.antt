-- The bundle. Read in this order.
--
--   Recordings   what a bundle means: tracks, references, samples with their bytes
--   Parts        parts of a bundle
--   Limits       the limits, and refusals 2 and 3
--   Fields       the sizes of the fields
--   Tracks       section one
--   References   section two
--   Samples      section three
--   Bundles      section four, and the whole
--   Readers      a reader of bundles; the reader of this layout
--   Steps        what the steps of the check say to each other
--   Answers      what the code's answers say
pub mod Recordings
pub mod Parts
pub mod Limits
pub mod Fields
pub mod Tracks
pub mod References
pub mod Samples
pub mod Bundles
pub mod Readers
pub mod Steps
pub mod Answers
