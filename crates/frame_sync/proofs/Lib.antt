pub mod Numbers
pub mod Windows
pub mod Headers
pub mod MoreStarts
pub mod IncomingWords
pub mod WholeSubframes
pub mod OneMoreBit
pub mod PushedBits
