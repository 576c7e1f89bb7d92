pub mod Answers
pub mod Lines
pub mod Questions
pub mod Words
