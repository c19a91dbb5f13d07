-- What the contracts of the registration cite beyond the ledger's definitions.
pub mod Registration
