pub mod Bounds
pub mod Rests
pub mod Totals
pub mod Spans
