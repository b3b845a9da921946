pub mod Log
pub mod Replaying
pub mod Writing
