-- What the opening's contracts cite beyond the ledger's definitions.
pub mod Each
pub mod Lengths
