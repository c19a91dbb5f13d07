-- A law of rows among the cells, for those that call with a part of them.
pub mod Laws
