pub mod Over
pub mod Fields
pub mod FromFn
pub mod Room
pub mod RoundTrip
pub mod WriteBack
