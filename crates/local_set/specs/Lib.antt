pub mod LocalSets
pub mod WordReferences
pub mod Tables
pub mod Calls
pub mod Counting
pub mod Walks
pub mod Inside
