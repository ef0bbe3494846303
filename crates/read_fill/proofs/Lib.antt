pub mod Texts
pub mod Cells
pub mod Going
pub mod Laying
