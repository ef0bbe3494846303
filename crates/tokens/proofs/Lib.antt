pub mod Cursor
pub mod Held
pub mod Answers
pub mod Lists
pub mod Once
