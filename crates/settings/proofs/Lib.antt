-- Laws that the proofs share.
pub mod Laws
mod WritingLaws
