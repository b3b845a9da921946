pub mod Signed
pub mod Members
pub mod Tests
pub mod Rising
pub mod Options
