pub mod Lengths
pub mod Codes
pub mod Places
pub mod Told
pub mod Once
