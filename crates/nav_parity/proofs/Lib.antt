pub mod Digits
pub mod Equations
pub mod Masks
pub mod WholeWords
pub mod ThreeErrors
pub mod InvertedWords
pub mod Checked
