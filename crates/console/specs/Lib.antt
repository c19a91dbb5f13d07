-- What the console's contracts cite.
pub mod Turn
