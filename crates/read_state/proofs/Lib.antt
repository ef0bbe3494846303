pub mod Enums
pub mod Steps
