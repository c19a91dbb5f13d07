-- What the tally and the date's row say beyond the ledger crate's definitions.
pub mod Sums
