-- Laid: what the writer starts from, and its words. Elements: the same of elements that are lent together.
pub mod Laid
pub mod Elements
