pub mod Letters
pub mod Words
pub mod Numbers
pub mod Results
pub mod Spelling
pub mod Lines
pub mod Telling
