-- What a row is asked.
pub mod Row
