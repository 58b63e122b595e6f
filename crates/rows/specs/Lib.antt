pub mod Arrangements
pub mod Enumeration
pub mod Growth
pub mod Tables
pub mod Searches
