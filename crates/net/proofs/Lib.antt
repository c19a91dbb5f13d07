-- Laws that the proofs of the net read share.
pub mod SideLaws
pub mod NetLaws
pub mod ReadLaws
