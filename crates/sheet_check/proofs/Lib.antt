pub mod Cells
pub mod Says
pub mod Steps
