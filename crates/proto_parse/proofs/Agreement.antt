pub mod Braced
pub mod Enums
pub mod Files
pub mod Messages
pub mod Services
