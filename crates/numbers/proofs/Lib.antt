-- Laws of readings.
pub mod Reading
