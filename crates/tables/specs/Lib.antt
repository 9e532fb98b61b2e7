-- A table of numbers beside a bundle: what any table says, and the recording that it gives with any bundle.
pub mod Tables
