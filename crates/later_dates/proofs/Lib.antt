-- Laws of rows among the cells and of the walk over later dates.
pub mod Laws
