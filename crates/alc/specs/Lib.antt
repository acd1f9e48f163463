-- Document 01 as definitions, in the order in which to read them. The bench sheets and the theorems, which no definition rests on, stand in proofs/
pub mod Lists
pub mod Bits
pub mod Sheet
pub mod Bytes
pub mod Meaning
pub mod Label
pub mod Masks
pub mod Settle
pub mod Seeds
pub mod Judge
pub mod Model
pub mod Causes
pub mod Replies
pub mod Promises
pub mod Writing
