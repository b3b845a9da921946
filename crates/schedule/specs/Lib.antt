pub mod Book
pub mod Added
pub mod Fits
pub mod Timetable
pub mod Chain
pub mod Lent
pub mod Open
