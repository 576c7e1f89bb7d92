pub mod Coded
pub mod Tests
