-- What the contracts of the net read say beyond the ledger crate's definitions.
pub mod Sides
pub mod Walk
pub mod Asked
