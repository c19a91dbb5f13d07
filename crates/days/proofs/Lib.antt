-- Laws that the proofs of the days share.
pub mod Laws
pub mod WindowLaws
