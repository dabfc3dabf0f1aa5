pub mod SameKeys
pub mod Agree
pub mod Roomy
pub mod Grouping
pub mod Showing
