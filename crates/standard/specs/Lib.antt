pub mod Standard
pub mod Rules
