pub mod Eight
pub mod Layout
pub mod Listed
pub mod Check
pub mod Worked
pub mod Answers
pub mod Views
