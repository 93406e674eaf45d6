pub mod Numbers
pub mod Fields
pub mod Names
pub mod Images
pub mod Counts
pub mod Contents
pub mod Refusals
pub mod Laws
