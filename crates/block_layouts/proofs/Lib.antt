pub mod LetterTexts
pub mod Fitting
