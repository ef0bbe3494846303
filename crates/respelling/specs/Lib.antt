pub mod Puts
pub mod Decimal
pub mod Respell
pub mod Stream
pub mod Run
pub mod Example
