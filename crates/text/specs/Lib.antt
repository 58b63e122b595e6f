pub mod Limits
pub mod Numbers
pub mod RangeLines
pub mod Readers
pub mod Telling
pub mod Tokens
pub mod Written
