-- What the words of crates/promises/specs mean: plain facts, with document 01's numbers. The proofs stand in proofs/.
--
--   Records, Samples, Bundles, Resolving, Audits  a record, a sample, a bundle, a sample resolved, an audit
--   Copies                                        a copy by its start: a top-level unit, or an included one
--   Reading                                       with which number reading a record is refused
--   Numbers                                       where the sets of a record stand; a record as numbers
--   Units                                         the fields of units, and where they lie
--   First, SampleFaults, BundleFaults             the first place at fault; with which number, and where, a sample or a bundle is refused
--   Refused                                       with which number, and where, a call is refused
--   Returns                                       which answers the C functions give back
--   Streams                                       a sample as a byte stream
--   Salvaging                                     what becomes of a damaged sample
--   Ranging                                       a range of samples in one call
--   Contents                                      what is told of what a bundle holds
pub mod Records
pub mod Reading
pub mod Numbers
pub mod Samples
pub mod Bundles
pub mod Resolving
pub mod Copies
pub mod Units
pub mod First
pub mod SampleFaults
pub mod BundleFaults
pub mod Audits
pub mod Refused
pub mod Returns
pub mod Streams
pub mod Salvaging
pub mod Ranging
pub mod Contents
