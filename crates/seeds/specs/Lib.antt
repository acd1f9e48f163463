pub mod Asks
pub mod Left
