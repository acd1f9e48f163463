-- Laws that several proofs share: readings, entries, the loop over entries, whole sheets. Theorems has the proof that the promise settles the answer.
pub mod Entries
pub mod Loop
pub mod Reading
pub mod Sheets
pub mod Theorems
