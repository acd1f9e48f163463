-- The bench sheets and the sheets that tell readings apart, and the theorems: that the definitions mean what the demands say. No definition rests on them.
pub mod Bench
pub mod Readings
pub mod Written
pub mod Theorems
