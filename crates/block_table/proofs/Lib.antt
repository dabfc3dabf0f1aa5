mod Counts
mod Filtered
pub mod Tables
pub mod Found
pub mod Edits
pub mod Tabled
pub mod Ageing
pub mod Somes
pub mod Words
pub mod Positions
pub mod Comings
mod Results
pub mod Fronts
pub mod Visits
pub mod Lying
pub mod Told
pub mod Marked
pub mod Rekept
pub mod Alike
pub mod Rewritten
pub mod Begun
pub mod Grown
pub mod Coming
pub mod Going
pub mod Clearing
