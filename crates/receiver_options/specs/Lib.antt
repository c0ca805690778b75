pub mod CommandLines
pub mod Requests
pub mod ScriptTexts
