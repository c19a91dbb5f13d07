-- Laws of what commands print and leave.
pub mod Laws
pub mod Program
