-- Laws that the store's proofs share.
pub mod ColumnLaws
pub mod Bounds
pub mod Laws
pub mod LentLaws
pub mod Refusals
pub mod RowLaws
pub mod DayLaws
