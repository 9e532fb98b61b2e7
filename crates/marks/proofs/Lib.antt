-- Laws of marks.
--
--   Steps     the state one unit on, as the code finds it
--   Rows      states in rows
--   Marking   a sample that is being marked, and the state at any place by the marks
--   Copying   a copy by the rows, and by the marks
pub mod Steps
pub mod Rows
pub mod Marking
pub mod Copying
