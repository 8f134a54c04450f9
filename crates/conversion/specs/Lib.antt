pub mod HasHeader
pub mod Pictures
