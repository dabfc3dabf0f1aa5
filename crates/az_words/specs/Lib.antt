pub mod Lines
pub mod Words
pub mod Parts
pub mod Names
pub mod Numerals
pub mod Grammar
pub mod Laws
