-- Laws that the proofs of a date's row share.
pub mod Laws
