-- Laws that the opening's proofs share.
pub mod Laws
