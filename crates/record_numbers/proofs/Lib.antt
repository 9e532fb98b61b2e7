-- What the proofs of several functions use, and the promises.
mod Laws
pub mod Promise
