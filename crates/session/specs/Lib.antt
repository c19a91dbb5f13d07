-- What the session's contracts cite.
pub mod Session
