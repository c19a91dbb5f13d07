-- What the contracts of a fill say beyond the ledger crate's definitions.
pub mod Asked
pub mod Sharing
