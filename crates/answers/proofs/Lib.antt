pub mod Deciding
pub mod Queries
