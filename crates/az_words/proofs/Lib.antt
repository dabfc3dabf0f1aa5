pub mod Cutting
pub mod Parting
pub mod Digits
pub mod NumeralLaws
pub mod NameLaws
pub mod TextLines
