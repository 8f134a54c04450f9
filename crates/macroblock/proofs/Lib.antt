pub mod Reached
pub mod Advancing
pub mod Bodies
pub mod Firsts
pub mod Laters
pub mod Stops
