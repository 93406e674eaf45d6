pub mod Placed
pub mod Given
pub mod Steps
pub mod InTurn
pub mod Loads
pub mod Namings
