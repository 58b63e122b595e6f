pub mod Headings
pub mod Listings
