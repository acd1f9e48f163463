pub mod Forcing
pub mod Kept
pub mod Listing
