pub mod Writes
pub mod Complaints
pub mod Laws
pub mod Puts
