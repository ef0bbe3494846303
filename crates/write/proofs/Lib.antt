-- `Laws` has the answers of a call that puts a line of a sheet; its outcome is the only one, and what a caller has of a line that was put. `Withheld` has
-- the answers of the withheld copy; by `Keys` the note key is the copy that withholds nothing.
pub mod Laws
pub mod Withheld
pub mod Keys
