pub mod Demand1
pub mod Demand2
pub mod Demand3
pub mod Calls
pub mod Withheld
pub mod Keys
pub mod Padded
pub mod Joined
