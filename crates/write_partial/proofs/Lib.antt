-- `Shown` has the sentence that is written, with a range hidden; `Stretches` has its line, stretch by stretch; `Count` has how long these are; `Loops` has
-- what the loops over characters go by, and `Asks` what the calls for a stretch ask; `Widest` has the columns that are left; `Whole`
-- puts the line together.
pub mod Shown
pub mod Stretches
pub mod Count
pub mod Loops
pub mod Asks
pub mod Widest
pub mod Whole
