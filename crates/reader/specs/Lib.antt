-- What is promised; then what the parts of the reader say.
pub mod Promise
pub mod Parts
