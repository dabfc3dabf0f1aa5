pub mod Maps
pub mod Marking
pub mod Spaces
pub mod Tables
pub mod Sizes
