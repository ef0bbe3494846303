pub mod Eights
pub mod Held
pub mod Exact
pub mod Listed
pub mod Look
pub mod Whole
