-- What the contracts of the band search say beyond the ledger crate's definitions.
pub mod Search
