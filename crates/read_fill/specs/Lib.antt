pub mod Emits
pub mod Fill
