-- Laws that the run's proofs share.
mod Laws
