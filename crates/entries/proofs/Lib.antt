-- Laws of rows of entries, of days and of sums that several crates cite.
pub mod RowLaws
pub mod DayLaws
pub mod SumLaws
