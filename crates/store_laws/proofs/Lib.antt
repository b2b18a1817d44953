pub mod Listings
pub mod Divisions
pub mod Placements
