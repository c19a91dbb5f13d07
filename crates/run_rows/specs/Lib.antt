-- What the row functions say beyond the ledger crate's definitions.
pub mod Sums
pub mod Shape
