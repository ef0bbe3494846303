pub mod Blank
pub mod Outcome
pub mod Changed
pub mod Kept
pub mod After
pub mod Resets
