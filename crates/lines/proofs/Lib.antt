-- Laws of words, numbers and bytes.
pub mod Spelled
