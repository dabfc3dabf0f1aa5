pub mod Filter
pub mod Values
pub mod Table
