pub mod Prefixes
pub mod Scanning
