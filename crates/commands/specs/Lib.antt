-- What the contracts of commands cite.
pub mod Commands
pub mod Program
