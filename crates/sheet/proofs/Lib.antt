pub mod Causes
pub mod Rows
pub mod Arrays
pub mod Books
pub mod Calls
pub mod BookLaws
