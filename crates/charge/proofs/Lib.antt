pub mod Below
pub mod Rising
pub mod Fits
pub mod Costs
pub mod Strands
pub mod Exhaustive
