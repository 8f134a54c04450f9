pub mod Sum
