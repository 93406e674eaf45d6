pub mod Complaints
pub mod Tops
