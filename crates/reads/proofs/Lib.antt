-- Laws that the proofs of the reads share.
pub mod CheckLaws
pub mod RowLaws
