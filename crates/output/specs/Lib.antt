-- What the contracts on answer lines cite.
pub mod Text
pub mod Lines
