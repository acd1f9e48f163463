-- That the reader's definition says what each number of a form has to keep, and that the promise follows; then laws that several proofs share:
-- the bytes of numbers, and of sections.
pub mod Bytes
pub mod Sections
pub mod Theorems
pub mod Back
