-- What the contracts on commands cite.
pub mod Operands
pub mod Form
