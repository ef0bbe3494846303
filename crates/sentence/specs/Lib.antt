pub mod Forms
pub mod Sentence
pub mod Withheld
pub mod Reading
pub mod Writing
pub mod Joined
pub mod Refusals
pub mod Worked
