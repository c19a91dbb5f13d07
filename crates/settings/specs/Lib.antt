-- What the leaves say beyond the ledger crate's definitions.
pub mod Access
pub mod Opening
pub mod Window
