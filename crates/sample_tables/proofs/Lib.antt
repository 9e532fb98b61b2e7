-- Laws of the samples that a table says.
--
--   Cells   a sample's time and bytes by the numbers of its row
pub mod Cells
