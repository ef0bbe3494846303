pub mod If
pub mod Put
pub mod All
pub mod Quoted
