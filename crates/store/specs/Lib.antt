-- What the store's leaves say beyond the ledger crate's definitions.
pub mod Column
pub mod DayRows
pub mod Lent
pub mod Meters
pub mod Outcome
