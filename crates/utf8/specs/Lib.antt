pub mod Utf8
pub mod Examples
pub mod Text
