-- Laws of the writer, and the promises of reading and writing.
pub mod Laws
pub mod Promise
