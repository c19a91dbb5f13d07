-- Laws that the proofs of the C calls share.
pub mod Fit
pub mod Laws
