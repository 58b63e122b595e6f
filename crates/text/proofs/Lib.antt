pub mod Keeping
pub mod LineForms
pub mod Parsing
pub mod Pieces
pub mod Scans
pub mod Spelling
pub mod Words
