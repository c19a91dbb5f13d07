-- What the lower layer's contracts cite: number checks, calendar, averaging and ranges.
pub mod Sum
pub mod Mpan
pub mod Calendar
pub mod Average
pub mod Range
