pub mod Between
pub mod Through
