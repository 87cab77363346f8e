pub mod Enums
pub mod Files
pub mod Messages
pub mod Services
pub mod Syntax
