pub mod Chords
pub mod Counts
pub mod Mapped
pub mod Neighbours
pub mod Paired
pub mod Ranges
pub mod Slashes
pub mod Tally
