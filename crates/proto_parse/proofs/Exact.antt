pub mod Messages
pub mod Files
