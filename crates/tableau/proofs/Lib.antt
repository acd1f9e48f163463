pub mod Buffers
pub mod Expand
pub mod Jointly
