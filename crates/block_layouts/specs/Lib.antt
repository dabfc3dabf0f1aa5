pub mod Shapes
pub mod Layouts
pub mod Letters
pub mod Fitting
pub mod Codes
