-- What the product promises as a whole.
--
--   Demands     the demands, in their order and nearly in their words: read this first
--   Contents    what a player and the command are told of a recording
--   Request01   what document 02's request [1] asks for
--   Request02   what document 02's request [2] asks for
--   Request03   what document 02's request [3] asks for
--   Request04   what document 02's request [4] asks for
--   Request05   what document 02's request [5] asks for
--   Request06   what document 02's request [6] asks for
--   Request11   what document 02's request [11] asks for
--   Request14   what document 02's request [14] asks for
--   Table       the marked cases M1 to M12 of document 01, and its bench bundle B0
pub mod Demands
pub mod Contents
pub mod Request01
pub mod Request02
pub mod Request03
pub mod Request04
pub mod Request05
pub mod Request06
pub mod Request11
pub mod Request14
pub mod Table
