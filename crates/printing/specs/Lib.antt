pub mod Text
pub mod Output
pub mod Lines
pub mod Open
