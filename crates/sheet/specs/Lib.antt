pub mod Numbers
pub mod Rows
pub mod Books
pub mod Causes
pub mod Calls
pub mod Tables
pub mod Sheets
pub mod Laws
