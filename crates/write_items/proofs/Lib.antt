-- `Cells` has the bytes before a cell and the listed cells of a row; `Tags` has what the loop over a row's tags goes by; `Lengths` says how
-- long a token's line is; `Held` has the items of a sheet; `Room` has the bound of a line, and what is said of too little room.
pub mod Cells
pub mod Tags
pub mod Lengths
pub mod Held
pub mod Room
