-- Laws that the proofs of a fill share.
pub mod SharingLaws
pub mod ReadLaws
