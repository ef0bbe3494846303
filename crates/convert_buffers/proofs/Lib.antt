pub mod Outcomes
pub mod Rooms
pub mod Passed
pub mod Written
