-- Laws of lines that wait.
pub mod Laws
