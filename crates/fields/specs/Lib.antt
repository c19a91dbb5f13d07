-- An answer as numbers, for callers in C.
pub mod Fields
pub mod Worked
