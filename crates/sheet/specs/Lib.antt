-- The form of a sheet, and what it means.
pub mod Form
