pub mod Links
pub mod Writing
pub mod Network
pub mod Counted
pub mod Bounding
