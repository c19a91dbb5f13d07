-- Laws that the console's proofs share, and the whole dialogue.
mod Laws
mod Turning
pub mod Whole
