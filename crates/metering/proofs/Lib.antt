-- Laws of the definitions, laws of signed numbers that several crates cite, and laws of windows.
pub mod Laws
pub mod SignedLaws
pub mod WindowLaws
