pub mod Then
pub mod Past
pub mod Marks
pub mod Package
pub mod Order
