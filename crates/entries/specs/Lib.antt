-- What the leaves say beyond the ledger crate's definitions.
pub mod Cell
pub mod Reading
pub mod Row
pub mod Sums
