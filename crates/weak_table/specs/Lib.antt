pub mod Locs
pub mod Agrees
pub mod Lists
pub mod Grouped
pub mod Listings
pub mod Shows
