-- The command program over the plain ledger, and the scope paper's dialogues.
pub mod Conversation
pub mod Example
