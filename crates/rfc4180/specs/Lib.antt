pub mod Text
pub mod Records
pub mod Number
pub mod Answers
pub mod Open
