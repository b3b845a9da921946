pub mod Answers
pub mod Errors
pub mod Outcomes
pub mod Working
pub mod Claim
pub mod Open
