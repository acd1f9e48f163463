-- The words of a line, and what a word says.
pub mod Words
