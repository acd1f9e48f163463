pub mod Lines
pub mod Walking
pub mod Told
pub mod Masks
