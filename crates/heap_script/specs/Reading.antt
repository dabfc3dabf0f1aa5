-- How a script is read, as functions. The laws say it by the grammar
pub mod Scripts
