pub mod Numbers
pub mod Listed
