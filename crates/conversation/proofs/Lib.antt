-- The theorem on the program's bytes, and the dialogues computed.
pub mod Simulation
pub mod Conversation
pub mod Example
