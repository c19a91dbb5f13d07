-- Laws that the proofs of the band search share.
pub mod Laws
pub mod AnswerLaws
