-- What is promised of a form; what each number of it has to keep.
pub mod Promise
pub mod Checks
