pub mod Loads
pub mod Namings
pub mod Shown
pub mod Sources
pub mod Readings
