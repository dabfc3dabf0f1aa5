-- What readers answer, as functions. The laws say it by the grammar
pub mod Words
pub mod Calls
