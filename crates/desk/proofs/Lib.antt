pub mod Opens
pub mod Satisfying
pub mod Querying
