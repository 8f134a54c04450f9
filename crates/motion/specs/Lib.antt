pub mod Congruence
pub mod Displacement
pub mod Displaces
pub mod Standard
pub mod Steps
pub mod Vector
