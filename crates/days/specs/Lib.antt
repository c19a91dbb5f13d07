-- What the contracts of the days say beyond the ledger crate's definitions.
pub mod Window
