-- Laws that the proofs of these reads share.
pub mod Laws
