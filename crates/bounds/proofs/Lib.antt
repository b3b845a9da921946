pub mod Links
pub mod Moves
pub mod Whole
pub mod Counted
pub mod Written
pub mod Outcome
