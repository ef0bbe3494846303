pub mod Wrote
pub mod Escape
