-- `Most` has the bound of the line; `Turns` has what the loops over the tokens go by.
pub mod Most
pub mod Turns
