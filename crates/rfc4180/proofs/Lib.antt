pub mod Rows
pub mod Records
pub mod Text
pub mod Bytes
pub mod Reading
pub mod Digits
pub mod Outcome
