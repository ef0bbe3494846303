pub mod Tests
pub mod Tail
pub mod Facts
pub mod Sized
