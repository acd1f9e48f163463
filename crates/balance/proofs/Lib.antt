-- Counting, and exact differences.
pub mod Counting
pub mod Exact
